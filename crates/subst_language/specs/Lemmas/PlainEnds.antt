-- Whether runs of plain items meet at the joint of two trees.
use Rattle.std.specs.Prelude.{◌≡◌, Bool, false}
use Rattle.subst_language.specs.Language.Tree.{Tree, Empty, Then}
use Rattle.subst_language.specs.Language.Counts.{is_plain}

-- whether the tree's last item is plain, or `after_plain` if the tree is empty; `after_plain` is whether the
-- item before the tree is plain
abbrev pub ends_plain : (after_plain : Bool) → Tree → Bool
ends_plain after_plain Empty = after_plain
ends_plain after_plain (Then item rest) = ends_plain (is_plain item) rest

-- the tree has items, of which neither the first nor the last is plain
abbrev pub HasNoPlainEnds : Tree → Type 0
HasNoPlainEnds Empty = ⊥
HasNoPlainEnds (Then item rest) = (is_plain item ≡ false) × (ends_plain (is_plain item) rest ≡ false)
