-- The outputs and faults of a document's strings.
use Rattle.std.specs.Prelude.{◌≡◌, ◌⊎◌, ℕ, List, [], IfNone, IsSomeAnd}
use Rattle.subst.specs.Language.Answer.{Answer, Gives, Refuses}
use Rattle.subst_expander.specs.Faults.{AreShuffledFaultsOf, IsFaulty}
use Rattle.subst_expander.specs.Fill.{GivesFor}
use Rattle.subst_expander.specs.Layers.{Entry, AreVariablesOf}
use Rattle.subst_expander.specs.declared.document.filler.StringFiller.{StringFiller}
use Rattle.subst_expander.specs.declared.fault.Fault.{Fault}

-- the filler has variables, and these are the variables of the entries
abbrev pub FillsFrom : StringFiller → List Entry → Type 0
FillsFrom filler entries = IsSomeAnd filler.variables (λ variables. AreVariablesOf variables.now entries)

-- the filler's answer for the string `s` is right: `s` expands to the output `x`, or `x` is `s` itself if the
-- filler has no variables; for a refusal, `s` has a fault
abbrev pub AnswersBy : StringFiller → List ℕ → Answer → Type 0
AnswersBy filler s (Gives x) = IfNone filler.variables (x ≡ s)
    × ((entries : List Entry) → FillsFrom filler entries → GivesFor filler.placeholders.now entries s x)
AnswersBy filler s (Refuses f) =
    (entries : List Entry) → FillsFrom filler entries → IsFaulty filler.placeholders.now entries s

-- the filler has some output for the string `s`
abbrev pub GivesSome : StringFiller → List ℕ → Type 0
GivesSome filler s = (x : List ℕ) × AnswersBy filler s (Gives x)

-- `faults` are those of the string `s` in some order, or none if the filler has an output for `s`
abbrev pub AreFaults : StringFiller → (s : List ℕ) → (faults : List Fault) → Type 0
AreFaults filler s faults = ((faults ≡ []) × GivesSome filler s)
    ⊎ ((entries : List Entry) → FillsFrom filler entries
    → AreShuffledFaultsOf filler.placeholders.now entries s faults)
