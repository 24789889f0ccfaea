-- By the walk from the cursor's cell on.
use Rattle.std.proofs.Common.{◌≡◌, None, true, sym, subst, rules}
use Rattle.subst_indexed.proofs.StepLemmas.{same_name, steps}
use Rattle.subst_indexed.specs.Slot.{Agree, known_at}
use Rattle.subst_indexed.specs.Step.{StepsTo}
use Rattle.subst_indexed.specs.Template.{is_whole}
use Rattle.subst_indexed.proofs.step.expand_step.Goals as goal
use Rattle.subst_indexed.proofs.step.expand_step.Goals.{else-cursor-eq0-via-then-cursor-eq0+else-not-is_whole, else-cursor-eq0-via-else-cursor-eq0}

pub returns : goal.returns
returns g c =
    let whole : c.args.cursor.now.index ≡ 0 → is_whole c.args.cells.now ≡ true =
    elim c.else-cursor-eq0.branch [
      | else-cursor-eq0-via-then-cursor-eq0+else-not-is_whole w ↦ λ none. sym w.if-not-is_whole.ensures
      | else-cursor-eq0-via-else-cursor-eq0 w ↦ λ none. absurd (w.if-cursor-eq0.false none)
    ]
    in
    let done =
    steps _ c.args.cells.now c.args.source.now _ c.in-Some.ensures _ c.walk-outcome.result _ _ _ _ whole
    c.walk-outcome.ensures
    in
    let name =
    same_name _ c.args.cells.now c.args.source.now _ c.in-Some.ensures _ c.walk-outcome.result _ _ _ _
    c.walk-outcome.ensures
    in
    record {
      steps =
          subst (λ it. StepsTo (λ number. known_at g.V.AsSlot.known c.args.values.now number ≡ None)
          (Agree g.V.AsSlot.known c.args.values.now) c.args.cells.now c.args.source.now c.walk-outcome.result
          c.args.cursor.now (record { index = c.walk-outcome.new.at; written = c.walk-outcome.new.output.written })
          c.args.slice.now it) (search (rules, name)) done;
    }
