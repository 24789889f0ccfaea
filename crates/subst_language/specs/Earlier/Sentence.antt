-- Sentences of the earlier language: the texts of well-formed trees.
use Rattle.std.specs.Prelude.{◌≡◌, ℕ, List}
use Rattle.subst_language.specs.Earlier.Tree.{Tree, text}
use Rattle.subst_language.specs.Earlier.WellFormed.{IsWellFormed}

-- s is a sentence, and t is its tree
pub record Spells (t : Tree) (s : List ℕ) : Type 0 where
  pub well_formed : IsWellFormed t
  pub spelled : s ≡ text t
