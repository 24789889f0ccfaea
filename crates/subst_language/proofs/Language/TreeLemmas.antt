-- Trees concatenated: the items of one tree, and after them the items of another.
use Rattle.std.proofs.Common.{rules, ◌≡◌, ℕ, ◌+◌, List, [], ◌∷◌, ◌++◌, length, refl, ap, append_assoc, length-append, add_assoc, add-zero}
use Rattle.subst_language.specs.Language.Name.{IsNameByte}
use Rattle.subst_language.specs.Language.Tree.{Item, Plain, Short, Tree, Empty, Then, item_text, text}
use Rattle.subst_language.specs.Language.Name.{BeginsWithNo}
use Rattle.subst_language.specs.Language.Join.{join}
use Rattle.subst_language.specs.Language.WellFormed.{EndsName, IsItem, IsWellFormed}
use Rattle.subst_language.specs.Language.Followed.{IsFollowed}
use Rattle.subst_language.specs.Language.Sentence.{Spells}
use Rattle.subst_language.specs.Language.LookUp.{LookUp}
use Rattle.subst_language.specs.Language.Value.{joined, value}
use Rattle.subst_language.proofs.Language.ValueLemmas.{joined_assoc, joined-left}

-- joining the empty tree changes nothing
pub join_empty : (t : Tree) → join t Empty ≡ t
join_empty Empty = refl
join_empty (Then item rest) = ap (Then item) (join_empty rest)

-- the text of two trees concatenated is their texts concatenated
pub text-join : (t u : Tree) → text (join t u) ≡ text t ++ text u
text-join Empty u = refl
text-join (Then item rest) u = rw (text-join rest u, append_assoc)

-- the value of two trees concatenated is their values concatenated
pub value-join : (p : ℕ) (t u : Tree) (look : LookUp)
    → value p (join t u) look ≡ joined (value p t look) (value (p + length (text t)) u look)
value-join p Empty u look = rw (add-zero, joined-left)
value-join p (Then item rest) u look =
    rw (length-append, ← add_assoc, joined_assoc, ← value-join (p + length (item_text item)) rest u look)

-- a tree whose text begins with no name byte ends a name
pub ends_name : (u : Tree) → BeginsWithNo IsNameByte (text u) → EndsName u
ends_name Empty b = tt
ends_name (Then (Plain c) rest) b = b
ends_name (Then item rest) b = tt

-- if a text may follow a tree, so may its prefix
pub followed_front : (t : Tree) (x y : List ℕ) → IsFollowed t (x ++ y) → IsFollowed t x
followed_front Empty x y f = tt
followed_front (Then (Short n) Empty) [] y f = tt
followed_front (Then (Short n) Empty) (b ∷ x) y f = f
followed_front (Then (Short n) (Then item rest)) x y f = followed_front (Then item rest) x y f
followed_front (Then item rest) x y f = followed_front rest x y f

-- a text that may follow a tree may follow the items after its first
pub followed_tail : (item : Item) (rest : Tree) (x : List ℕ) → IsFollowed (Then item rest) x
    → IsFollowed rest x
followed_tail (Short n) Empty x f = tt
followed_tail (Short n) (Then item rest) x f = f
followed_tail item rest x f = f

-- a text that begins with no name byte may follow each tree
pub followed_by_no_name : (t : Tree) (x : List ℕ) → BeginsWithNo IsNameByte x → IsFollowed t x
followed_by_no_name Empty x b = tt
followed_by_no_name (Then (Short n) Empty) x b = b
followed_by_no_name (Then (Short n) (Then item rest)) x b = followed_by_no_name (Then item rest) x b
followed_by_no_name (Then item rest) x b = followed_by_no_name rest x b

-- the empty text may follow each tree
pub followed_by_nothing : (t : Tree) → IsFollowed t []
followed_by_nothing t = followed_by_no_name t [] tt

-- an item may precede the items that follow it, and a tree after those
pub item_join : (item : Item) (rest u : Tree) → IsItem item rest → IsFollowed (Then item rest) (text u)
    → IsItem item (join rest u)
item_join (Short n) Empty u i f = (i.0, ends_name u f)
item_join (Short n) (Then (Plain b) rest) u i f = i
item_join (Short n) (Then item rest) u i f = i
item_join item rest u i f = i

-- two well-formed trees concatenated are well-formed, if the second may follow the first
pub well_formed_join : (t u : Tree) → IsWellFormed t → IsWellFormed u → IsFollowed t (text u)
    → IsWellFormed (join t u)
well_formed_join Empty u wt wu f = wu
well_formed_join (Then item rest) u wt wu f =
    (item_join item rest u wt.0 f, well_formed_join rest u wt.1 wu (followed_tail item rest (text u) f))

-- the texts that may follow two trees concatenated
pub followed_join : (t u : Tree) (x : List ℕ) → IsFollowed t (text u ++ x) → IsFollowed u x
    → IsFollowed (join t u) x
followed_join Empty u x f g = g
followed_join (Then (Short n) Empty) Empty x f g = f
followed_join (Then (Short n) Empty) (Then item rest) x f g = g
followed_join (Then (Short n) (Then item rest)) u x f g = followed_join (Then item rest) u x f g
followed_join (Then item rest) u x f g = followed_join rest u x f g

-- two sentences concatenated are a sentence, if the second may follow the tree of the first
pub spells_join : (t u : Tree) (x y : List ℕ) → Spells t x → Spells u y → IsFollowed t y
    → Spells (join t u) (x ++ y)
spells_join t u x y a b f = search (rules, well_formed_join, text-join)
