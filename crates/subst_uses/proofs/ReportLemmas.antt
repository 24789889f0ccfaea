-- Reports of several faults.
use Rattle.std.proofs.Common.{◌≡◌, ◌≢◌, ℕ, List, [], ◌∷◌, ◌++◌, map, Option, Some, None, Result, IfOk, refl, sym, ap, ◌∙◌, append-nil}
use Rattle.std.proofs.lemmas.List.{map_push}
use Rattle.std.proofs.lemmas.List.Folds.{concat-append}
use Rattle.std.specs.List.{concat}
use Rattle.std.specs.Prelude.{IsSomeAnd}
use Rattle.subst.specs.Fault.{Fault, NoSuchVariable}
use Rattle.subst.specs.Language.Variables.{Variable, required}
use Rattle.subst_uses.specs.Report.{AreReports, IsReport, report_of}

-- the report of an error that states a fault is the report of the fault
pub report_of_a_fault : {T E : Type 0} (bytes_of : T → List ℕ) (e : Option Fault) (file s : List ℕ)
    (result : Result T E) → e ≢ None → IfOk result (λ text. IsReport file e s (bytes_of text))
    → IfOk result (λ text. IsSomeAnd e (λ f. IsReport file (Some f) s (bytes_of text)))
report_of_a_fault bytes_of (Some f) file s result some report = report
report_of_a_fault bytes_of None file s result some report = absurd (some refl)

-- the report of one more missing variable is appended
pub report_added : (file s : List ℕ) (missing : List Variable) (position : ℕ) (name text shown both : List ℕ)
    → AreReports file missing s text → IsReport file (Some (NoSuchVariable position name)) s shown
    → both ≡ text ++ shown → AreReports file (missing ++ required position name ∷ []) s both
report_added file s missing position name text shown both (reports, each, is) one added =
    let report = λ (v : Variable). report_of file (Some (NoSuchVariable v.position v.name)) s in
    let here : report (required position name) ≡ Some shown = ap Some (sym one) in
    let more : map report (missing ++ required position name ∷ [])
    ≡ map report missing ++ report (required position name) ∷ [] =
    map_push report missing (required position name) in
    let last : concat (reports ++ shown ∷ []) ≡ concat reports ++ shown =
    concat-append reports (shown ∷ []) ∙ ap (λ x. concat reports ++ x) (append-nil shown) in (
      reports ++ shown ∷ [],
      more ∙ ap (λ xs. xs ++ report (required position name) ∷ []) each
          ∙ ap (λ x. map Some reports ++ x ∷ []) here ∙ sym (map_push Some reports shown),
      added ∙ ap (λ x. x ++ shown) is ∙ sym last,
    )
