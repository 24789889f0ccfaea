-- If no fault is returned, the lines have none, or their one fault isn't settled.
use Rattle.std.proofs.Common.{◌≡◌, ◌↔◌, ℕ, Bool, false, List, length, Option, Some, None, Result, Ok, IfOk, IfSome, IsTrue, sym, subst, ◌∙◌}
use Rattle.std.specs.Prelude.{IfNone, IsSomeAnd}
use Rattle.std.specs.declared.alloc.AllocError.{AllocError}
use Rattle.std.proofs.lemmas.Bool.{false≢true}
use Rattle.subst.specs.Errors.{ParseError}
use Rattle.subst.specs.ErrorFault.{parse_fault}
use Rattle.subst.specs.Fault.{Fault}
use Rattle.subst.specs.Language.BadItem.{HasFault}
use Rattle.subst.specs.Language.Laws.{IsSettled, OneTreeOrOneFault}
use Rattle.subst_uses.proofs.lines.early_fault.Goals.{in-Ok, in-Err+in_ok-is_settled-in-Err+else-branch}
use Rattle.subst_uses.proofs.lines.early_fault.Goals as goal

-- no fault of the text is settled
abbrev HasNoneSettled : List ℕ → Type 0
HasNoneSettled s = (f : Fault) → HasFault 0 s f → ¬ (IsSettled (length s) f)

-- no fault is settled if the result is `Ok(None)`
none_returned : (s : List ℕ) (result : Result (Option ParseError) AllocError) → result ≡ Ok None
    → HasNoneSettled s
    → IfOk result (λ found. IfNone found (HasNoneSettled s))
none_returned s result is none = subst (λ r. IfOk r (λ found. IfNone found (HasNoneSettled s))) (sym is) none

-- no fault is settled if the fault of an error, the text's only one, isn't
none_settled : (s : List ℕ) (found : Option Fault) (settled : Bool) → OneTreeOrOneFault s
    → IfSome found (HasFault 0 s) → IsSomeAnd found (λ f. IsTrue settled ↔ IsSettled (length s) f)
    → settled ≡ false → HasNoneSettled s
none_settled s None settled one has same test f fault is = elim same [ ]
none_settled s (Some g) settled one has same test f fault is =
    false≢true (sym test ∙ same.1 (subst (λ h. IsSettled (length s) h) (one.fault_unique 0 f g fault has) is))

pub returns-clause-none : goal.returns-clause-none
returns-clause-none c =
    let s = c.args.lines.now in
    let one = c.law_1.ensures.reading s in
    elim c.match-from_str.branch [
      | in-Ok w ↦
          let (t, spells) = w.in-Ok.ensures.ok.0 in
          none_returned s c.match-from_str.result w.result-is
          (λ f fault _. one.never_both t 0 f spells fault)
      | in-Err+in_ok-is_settled-in-Err+else-branch w ↦
          none_returned s c.match-from_str.result w.result-is
          (none_settled s (parse_fault w.in-Err.e) _ one w.in-Err.ensures.err
          w.in_ok-is_settled-in-Err.ensures
          w.if-branch.false)
    ]
