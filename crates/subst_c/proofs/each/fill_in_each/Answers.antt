-- Each turn appends an output, or ends at the first row that is refused.
use Rattle.std.proofs.Common.{◌≡◌, length, rules}
use Rattle.subst_c.proofs.EachLemmas.{one_more, row_refused}
use Rattle.subst_c.proofs.each.fill_in_each.Goals as goal

pub returns-in-Err-add-clause-err : goal.returns-in-Err-add-clause-err
returns-in-Err-add-clause-err c =
    let refused = rw c.loop-row.invariant.source at c.in-Err-add.ensures.err in
    let counted : c.len.result ≡ length c.add.new.outputs.ends.items = search rules in
    rw counted (row_refused c.args.source.now c.args.rows.now c.loop-row.row-index _ _ _ _ _ _
    c.loop-row-test.true c.loop-row.invariant.outputs c.in-Err-add.ensures.ends c.from-in-Err-add.ensures refused)

pub loop-row-preserved : goal.loop-row-preserved
loop-row-preserved c =
    let added = c.in-Ok-add.ensures.ok in
    record {
      source = c.loop-row.invariant.source;
      outputs = one_more c.args.source.now c.args.rows.now c.loop-row.row-index _ _ _ added.0 _ _
          c.loop-row-test.true c.loop-row.invariant.outputs (rw c.loop-row.invariant.source at added.1) added.2
          added.3;
    }
