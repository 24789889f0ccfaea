-- Joined trees.
use Rattle.subst_language.specs.Language.Tree.{Tree, Empty, Then}

-- the items of two trees, concatenated
abbrev pub join : Tree → Tree → Tree
join Empty u = u
join (Then item rest) u = Then item (join rest u)
