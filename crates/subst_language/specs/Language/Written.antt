-- The bytes that an evaluation of a tree writes: those of its value, or those before its first missing
-- variable.
use Rattle.std.specs.Prelude.{ℕ, List, [], ◌∷◌, ◌++◌}
use Rattle.subst_language.specs.Language.LookUp.{LookUp}
use Rattle.subst_language.specs.Language.Steps.{Step, Own, Given, Lacks, steps_of}
use Rattle.subst_language.specs.Language.Tree.{Tree}

-- the bytes that steps write, up to the first missing variable
abbrev pub steps_written : List Step → List ℕ
steps_written [] = []
steps_written (Own b ∷ rest) = b ∷ steps_written rest
steps_written (Given x ∷ rest) = x ++ steps_written rest
steps_written (Lacks position name ∷ rest) = []

-- the bytes written for a tree whose text begins at position p, up to its first missing variable
abbrev pub written : ℕ → Tree → LookUp → List ℕ
written p t look = steps_written (steps_of p t look)
