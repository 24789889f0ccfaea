-- The only fault begins at the first byte that isn't UTF-8.
use Rattle.std.proofs.Common.{refl}
use Rattle.std.proofs.lemmas.Result.{IfOk-weaker}
use Rattle.std.specs.Str.{IsValidUpTo}
use Rattle.subst_expander.proofs.FaultLemmas.{one_weaker}
use Rattle.subst_expander.specs.Faults.{IsNoText}
use Rattle.subst_expander.proofs.text.not_utf8.Goals as goal
use Rattle.subst_expander.proofs.text.not_utf8.Goals.{in-Ok, in-Err}

pub returns : goal.returns
returns c = λ none.
    let up_to : IsValidUpTo c.args.bytes.now c.match-from_utf8.start =
    elim c.match-from_utf8.branch [
      | in-Ok w ↦ absurd (none w.in-Ok.ensures.cases.1)
      | in-Err w ↦ rw (w.start-is, w.valid_up_to-start.ensures) w.in-Err.ensures.cases.1
    ] in
    IfOk-weaker c.one_fault.result _ _ (λ faults. one_weaker _ (IsNoText c.args.bytes.now)
    (λ it (cause, range). (cause, none, rw range up_to, rw (range, c.saturating_add.ensures) refl))
    faults.items) c.one_fault.ensures
