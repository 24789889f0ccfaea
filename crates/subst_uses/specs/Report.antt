-- The reports of a refused text.
use Rattle.std.specs.Prelude.{◌≡◌, ◌⊎◌, ℕ, List, [], Option, Some, IfSome, codes, map, string_bytes}
use Rattle.std.specs.Fmt.{decimal, ◌++?◌}
use Rattle.std.specs.List.{concat}
use Rattle.subst.specs.Display.{display_of_error}
use Rattle.subst.specs.Fault.{Fault, NoSuchVariable}
use Rattle.subst.specs.Highlighting.{highlighting_of}
use Rattle.subst.specs.Language.Answer.{Answers, Gives}
use Rattle.subst.specs.Language.BadItem.{HasFault}
use Rattle.subst.specs.Language.LookUp.{LookUp}
use Rattle.subst.specs.Language.Sentence.{Spells}
use Rattle.subst.specs.Language.Tree.{Tree}
use Rattle.subst.specs.Language.Variables.{Variable, all_missing}
use Rattle.subst.specs.Position.{position_of}
use Rattle.subst_uses.specs.declared.report.Outcome.{Outcome}
use Rattle.subst_uses.specs.declared.report.Outcome.TheVariants.{Output, Report}

-- `file:line:column: fault`, and then the line of the fault, underlined; `None` if the fault quotes a
-- character that isn't ASCII, since contracts don't state whether such a character is escaped
abbrev pub report_of : List ℕ → Option Fault → List ℕ → Option (List ℕ)
report_of file e s =
    let place = position_of e s in
    Some file ++? Some (codes ":") ++? Some (decimal place.0) ++? Some (codes ":") ++? Some (decimal place.1)
    ++? Some (codes ": ") ++? display_of_error e ++? Some (codes "\n") ++? Some (highlighting_of e s)

-- the text is the report of a fault; nothing is stated if `report_of` is `None`
abbrev pub IsReport : List ℕ → Option Fault → List ℕ → List ℕ → Type 0
IsReport file e s text = IfSome (report_of file e s) (λ shown. text ≡ shown)

-- the text is a concatenation of reports, one for each variable in `missing`, in order; the source is s
abbrev pub AreReports : List ℕ → List Variable → List ℕ → List ℕ → Type 0
AreReports file missing s text = (reports : List (List ℕ))
    × (map (λ v. report_of file (Some (NoSuchVariable v.position v.name)) s) missing ≡ map Some reports)
    × (text ≡ concat reports)

-- the outcome is the output of the source s, the report of its fault, or the concatenated reports of all its
-- missing variables
abbrev pub IsWholeOutcome : LookUp → List ℕ → List ℕ → Outcome → Type 0
IsWholeOutcome look file s (Output output) = Answers s look (Gives (string_bytes output))
IsWholeOutcome look file s (Report text) =
    ((f : Fault) × HasFault 0 s f × IsReport file (Some f) s (string_bytes text))
    ⊎ ((t : Tree) × Spells t s × (¬ (all_missing 0 t look ≡ []))
    × AreReports file (all_missing 0 t look) s (string_bytes text))
