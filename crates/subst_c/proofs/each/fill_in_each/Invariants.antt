-- The outputs so far are those of the rows so far.
use Rattle.std.proofs.Common.{◌≡◌, take}
use Rattle.subst_c.specs.Each.{AreOutputs}
use Rattle.subst_c.specs.RowSource.{source_of}
use Rattle.subst_c.proofs.each.fill_in_each.Given as goal

abbrev pub invariant-loop-row : goal.invariant-loop-row
invariant-loop-row l = record {
  source : source_of l.parsed ≡ l.source;
  outputs : AreOutputs l.source (take l.row-index l.rows) l.outputs.bytes.items l.outputs.ends.items;
}
