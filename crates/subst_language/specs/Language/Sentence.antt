-- Sentences: the texts of well-formed trees.
use Rattle.std.specs.Prelude.{◌≡◌, ℕ, List}
use Rattle.subst_language.specs.Language.Tree.{Tree, text}
use Rattle.subst_language.specs.Language.WellFormed.{IsWellFormed}

-- s is a sentence, and t is its tree
pub record Spells (t : Tree) (s : List ℕ) : Type 0 where
  pub well_formed : IsWellFormed t
  pub spelled : s ≡ text t

-- s is a sentence
abbrev pub IsSentence : List ℕ → Type 0
IsSentence s = (t : Tree) × Spells t s

-- P holds of the tree of the source; if the source is no sentence, this states nothing
abbrev pub ByTree : List ℕ → (Tree → Type 0) → Type 0
ByTree s P = (t : Tree) → Spells t s → P t
