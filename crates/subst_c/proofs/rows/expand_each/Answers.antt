-- Each turn writes an output, or ends at the first row whose expansion stops.
use Rattle.std.proofs.Common.{◌≡◌, ◌⊎◌, ◌<◌, length, inl, inr, ap, arith, rules, ◌∙◌}
use Rattle.std.proofs.Math.ListN.{set}
use Rattle.subst_indexed.specs.Laws.{expansion_value}
use Rattle.subst_c.proofs.RowsLemmas.{row_stopped, row_written, rows_too_long, rows_whole}
use Rattle.subst_c.specs.Values.{under_values}
use Rattle.subst_c.proofs.rows.expand_each.Goals as goal
use Rattle.subst_c.proofs.rows.expand_each.Goals.{then-i-ends, else-i-ends}

pub returns-then-result-eq-REFUSED-clause-answers : goal.returns-then-result-eq-REFUSED-clause-answers
returns-then-result-eq-REFUSED-clause-answers c =
    let s = c.args.source.now in
    rw (c.refuse-result.ensures.number, c.refuse-result.ensures.fault, c.loop-i.invariant.fault_kept)
    (row_stopped c.args.cells.now s c.args.rows.now c.loop-i.i _ _ _ c.in-Err.stop _ _ _ _ _ _ _ _ _ _
    c.loop-i-test.true c.loop-i.invariant.written c.in-Err.ensures
    (c.any_cells_are_harmless.ensures.harmless s c.args.cells.now _) (λ is. omega arith))

pub returns-else-result-eq-REFUSED-clause-answers : goal.returns-else-result-eq-REFUSED-clause-answers
returns-else-result-eq-REFUSED-clause-answers c =
    let s = c.args.source.now in
    rw (c.refuse-result.ensures.number, c.refuse-result.ensures.fault, c.loop-i.invariant.fault_kept)
    (row_stopped c.args.cells.now s c.args.rows.now c.loop-i.i _ _ _ c.in-Err.stop _ _ _ _ _ _ _ _ _ _
    c.loop-i-test.true c.loop-i.invariant.written c.in-Err.ensures
    (c.any_cells_are_harmless.ensures.harmless s c.args.cells.now _)
    (λ is. absurd (c.if-result-eq-REFUSED.false (c.refuse-result.ensures.number ∙ is))))

pub loop-i-preserved : goal.loop-i-preserved
loop-i-preserved c =
    let i = c.loop-i.i in
    let s = c.args.source.now in
    let (x, gives, put) = c.in-Ok.ensures in
    let is_set : i < length c.args.ends.now → c.if-i-ends.ends ≡ set c.loop-i.ends i c.in-Ok.end =
    λ fits. elim c.if-i-ends.branch [
      | then-i-ends w ↦ search (rules, arith)
      | else-i-ends w ↦ absurd (omega (arith, w.if-i-ends.false, c.loop-i.auto.ends))
    ] in
    record {
      written = row_written (under_values c.args.cells.now s) c.args.rows.now i _ _ _ _ _ _ _ _ _ x
          c.loop-i-test.true c.loop-i.invariant.written c.loop-i.auto.buffer (ap (expansion_value s) gives) put.0
          put.1 is_set;
      row_kept = c.loop-i.invariant.row_kept;
      fault_kept = c.loop-i.invariant.fault_kept;
    }

pub returns-then-buffer-written-clause-answers : goal.returns-then-buffer-written-clause-answers
returns-then-buffer-written-clause-answers c =
    let longer : (length c.args.buffer.now < c.loop-i.written) ⊎ (length c.args.ends.now < length c.args.rows.now) =
    elim c.then-buffer-written.either [
      | inl long ↦ inl (omega (arith, c.loop-i.auto.buffer))
      | inr (fits, many) ↦ inr (omega (arith, c.loop-i.auto.ends))
    ] in
    let s = c.args.source.now in
    rw c.loop-i.invariant.fault_kept
    (rows_too_long (under_values c.args.cells.now s) s c.args.rows.now c.loop-i.i _ _ _ _ _ _ _
    c.loop-i-test.false c.loop-i.invariant.written longer)

pub returns-clause-answers : goal.returns-clause-answers
returns-clause-answers c =
    let s = c.args.source.now in
    rw c.loop-i.invariant.fault_kept
    (rows_whole (under_values c.args.cells.now s) s c.args.rows.now c.loop-i.i _ _ _ _ _ _ _ c.loop-i-test.false
    c.loop-i.invariant.written (search (rules, arith)) (search (rules, arith)))
