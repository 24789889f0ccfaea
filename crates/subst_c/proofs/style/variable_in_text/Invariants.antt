-- No variable so far is the one that is sought.
use Rattle.std.proofs.Common.{◌≡◌, ◌<◌, ℕ, Some}
use Rattle.std.specs.List.{slice_get}
use Rattle.subst_language.specs.declared.variable.Variable.{Variable}
use Rattle.subst_c.proofs.style.variable_in_text.Given as goal

abbrev pub invariant-loop-index : goal.invariant-loop-index
invariant-loop-index g l = (k : ℕ) → k < l.index → (v : Variable) → slice_get l.variable-items k ≡ Some v
    → (v.position ≡ l.position) × (v.name.now ≡ l.name) → ⊥
