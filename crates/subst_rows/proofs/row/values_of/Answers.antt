-- One more value.
use Rattle.std.proofs.Common.{arith}
use Rattle.subst_rows.proofs.RowLemmas.{values_more}
use Rattle.subst_rows.specs.Row.{value_in}
use Rattle.subst_rows.proofs.row.values_of.Goals as goal

pub loop-number-preserved : goal.loop-number-preserved
loop-number-preserved g c = record {
  counted = omega (arith, c.in_ok-push.ensures.len, c.loop-number.invariant.counted);
  found =
      values_more (value_in c.args.sources.now (g.R.Row.cells c.args.row.now)) c.loop-number.values.items
      c.push.new.self.items c.value_at.result c.loop-number.number c.in_ok-push.ensures.items
      c.loop-number.invariant.counted c.value_at.ensures c.loop-number.invariant.found;
}
