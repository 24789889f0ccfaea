-- Texts that don't continue a name at the end of the tree before them.
use Rattle.std.specs.Prelude.{ℕ, List}
use Rattle.subst_language.specs.Language.Name.{IsNameByte, BeginsWithNo}
use Rattle.subst_language.specs.Language.Tree.{Short, Tree, Empty, Then}

-- the text x doesn't continue a name at the tree's end: if the tree ends with `$name`, x doesn't begin with a
-- name byte
abbrev pub IsFollowed : Tree → List ℕ → Type 0
IsFollowed Empty x = Unit {0}
IsFollowed (Then (Short n) Empty) x = BeginsWithNo IsNameByte x
IsFollowed (Then item rest) x = IsFollowed rest x
