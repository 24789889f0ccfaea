-- Texts that close several open braces.
use Rattle.std.specs.Prelude.{◌≡◌, ℕ, zero, suc, ◌+◌, List, ◌++◌, ◌∷◌}
use Rattle.subst_language.specs.Language.Bytes.{closing_brace}
use Rattle.subst_language.specs.Language.Balanced.{IsBalanced}

-- the text closes this many open braces, each after a balanced text; any bytes may follow
abbrev pub ClosesAll : ℕ → List ℕ → Type 0
ClosesAll zero w = Unit {0}
ClosesAll (suc count) w = (x y : List ℕ) × IsBalanced x × (w ≡ x ++ closing_brace ∷ y) × ClosesAll count y

-- the text closes this many open braces, each after a balanced text, and the rest of it is balanced
abbrev pub Completes : ℕ → List ℕ → Type 0
Completes zero w = IsBalanced w
Completes (suc count) w = (x y : List ℕ) × IsBalanced x × (w ≡ x ++ closing_brace ∷ y) × Completes count y

-- The text y changes the number of inner open braces from d to e, and closes no brace around them. So `y ++
-- v` completes d open braces if v completes e. If `y ++ v` closes d braces and some more around them, v
-- closes e braces and as many more.
pub record ChangesDepth (y : List ℕ) (d e : ℕ) : Type 0 where
  pub completed : (v : List ℕ) → Completes e v → Completes d (y ++ v)
  pub closed : (k m n : ℕ) (v : List ℕ) → m ≡ d + suc k → n ≡ e + suc k → ClosesAll m (y ++ v) → ClosesAll n v
