-- Trees of plain bytes.
use Rattle.std.proofs.Common.{◌≡◌, ℕ, ◌+◌, List, [], ◌∷◌, refl, ap}
use Rattle.std.specs.List.{AllByRecursion}
use Rattle.subst_language.specs.Language.Bytes.{IsPlain}
use Rattle.subst_language.specs.Language.Tree.{Plain, Tree, Empty, Then, text}
use Rattle.subst_language.specs.Language.WellFormed.{IsWellFormed}
use Rattle.subst_language.specs.Language.LookUp.{LookUp}
use Rattle.subst_language.specs.Language.Value.{Bytes, joined, value}

-- the tree of a run of plain bytes
abbrev pub plains : List ℕ → Tree
plains [] = Empty
plains (b ∷ x) = Then (Plain b) (plains x)

-- the text of this tree is the bytes
pub text-plains : (x : List ℕ) → text (plains x) ≡ x
text-plains [] = refl
text-plains (b ∷ x) = ap (λ y. b ∷ y) (text-plains x)

-- the value of this tree is the bytes
pub value-plains : (p : ℕ) (x : List ℕ) (look : LookUp) → value p (plains x) look ≡ Bytes x
value-plains p [] look = refl
value-plains p (b ∷ x) look = ap (joined (Bytes (b ∷ []))) (value-plains (p + 1) x look)

-- the tree of a run of plain bytes is well-formed
pub well_formed_plains : (x : List ℕ) → AllByRecursion IsPlain x → IsWellFormed (plains x)
well_formed_plains [] each = tt
well_formed_plains (b ∷ x) each = (each.0, well_formed_plains x each.1)
