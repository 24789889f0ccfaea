-- The strings of a text that is compared with its output.
use Rattle.std.specs.Prelude.{ℕ, List}
use Rattle.json.specs.Token.{Token}
use Rattle.subst_document.specs.Stays.{AreValues}
use Rattle.subst_json.specs.Filled.{strings_in}
use Rattle.subst_json.specs.declared.compared.RemainingStrings.{RemainingStrings}

-- `left` has the new value of each changing string among the tokens `ts`
abbrev pub AreRemaining : (List ℕ → List ℕ → Type 0) → RemainingStrings → List Token → Type 0
AreRemaining Becomes left ts = AreValues Becomes left.index (strings_in ts) left.list.now left.text.now
