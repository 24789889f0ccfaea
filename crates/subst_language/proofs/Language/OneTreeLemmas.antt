-- A text is the text of at most one well-formed tree.
use Rattle.std.proofs.Common.{rules, ◌≡◌, ◌⊎◌, ℕ, List, [], ◌++◌, refl, sym, ap, ◌∙◌, inl, inr, append_assoc}
use Rattle.subst_language.specs.Language.Tree.{Item, Plain, Escaped, Short, Braced, Optional, Default, Tree, Empty, Then, item_text, text}
use Rattle.subst_language.specs.Language.WellFormed.{IsItem, IsWellFormed}
use Rattle.subst_language.specs.Language.Sentence.{Spells}
use Rattle.subst_language.specs.Language.Followed.{IsFollowed}
use Rattle.subst_language.specs.Language.Join.{join}
use Rattle.subst_language.proofs.Language.TreeLemmas.{join_empty, followed_tail, followed_by_nothing}
use Rattle.subst_language.proofs.Language.NameLemmas.{backslash_no_name, dollar_no_name}
use Rattle.subst_language.proofs.Language.BeginningLemmas.{beginning, item_beginning, beginning-item}

-- a text that may follow a well-formed tree may follow its first item and the rest of the tree
pub item_followed : (item : Item) (rest : Tree) (x : List ℕ) → IsItem item rest
    → IsFollowed (Then item rest) x
    → IsFollowed (Then item Empty) (text rest ++ x)
item_followed (Short n) Empty x i f = f
item_followed (Short n) (Then (Plain b) rest) x i f = i.1
item_followed (Short n) (Then (Escaped b) rest) x i f = backslash_no_name
item_followed (Short n) (Then item rest) x i f = dollar_no_name
item_followed item rest x i f = tt

-- the beginning of a well-formed tree that isn't empty is its first item
pub front_tree : (item : Item) (rest : Tree) (x : List ℕ) → IsWellFormed (Then item rest)
    → IsFollowed (Then item rest) x
    → beginning (text (Then item rest) ++ x) ≡ item_beginning item (text rest ++ x)
front_tree item rest x w f =
    ap beginning (append_assoc (item_text item) (text rest) x)
    ∙ beginning-item item rest (text rest ++ x) w.0 (item_followed item rest x w.0 f)

-- a tree with no text is empty
pub empty_text : (t : Tree) (x : List ℕ) → [] ≡ text t ++ x → t ≡ Empty
empty_text Empty x e = refl
empty_text (Then (Plain b) rest) x e = cc
empty_text (Then _ rest) x e = cc

-- u extends t by some items, whose text and then y are the text x after t
pub record GoesOn (t : Tree) (x : List ℕ) (u : Tree) (y : List ℕ) : Type 0 where
  pub more : Tree
  pub tree : u ≡ join t more
  pub well_formed : IsWellFormed more
  pub rest : x ≡ text more ++ y

-- if nothing follows either tree, the two are equal
same_by_ends : (t u : Tree) → GoesOn t [] u [] ⊎ GoesOn u [] t [] → t ≡ u
same_by_ends t u (inl g) = sym (g.tree ∙ ap (join t) (empty_text g.more [] g.rest) ∙ join_empty t)
same_by_ends t u (inr g) = g.tree ∙ ap (join u) (empty_text g.more [] g.rest) ∙ join_empty u

-- the same, with one more item before both
goes_on_after : (i j : Item) (t u : Tree) (x y : List ℕ) → i ≡ j → GoesOn t x u y ⊎ GoesOn u y t x
    → GoesOn (Then i t) x (Then j u) y ⊎ GoesOn (Then j u) y (Then i t) x
goes_on_after i j t u x y e (inl g) =
    let h = g.tree in inl (record { more = g.more; tree = cc; well_formed = g.well_formed; rest = g.rest })
goes_on_after i j t u x y e (inr g) =
    let h = g.tree in inr (record { more = g.more; tree = cc; well_formed = g.well_formed; rest = g.rest })

-- two items are equal, but for the trees of their defaults, whose texts are equal
abbrev IsLike : Item → Item → Type 0
IsLike (Default n d) (Default m c) = (n ≡ m) × (text d ≡ text c)
IsLike i j = i ≡ j

-- two items with one beginning are like this, and the texts after them are equal
like_by_front : (i j : Item) (x y : List ℕ) → item_beginning i x ≡ item_beginning j y → IsLike i j × (x ≡ y)
like_by_front (Default n d) (Default m c) x y e = ((cc, cc), cc)
like_by_front (Plain b) (Default m c) x y e = absurd cc
like_by_front (Escaped b) (Default m c) x y e = absurd cc
like_by_front (Short n) (Default m c) x y e = absurd cc
like_by_front (Braced n) (Default m c) x y e = absurd cc
like_by_front (Optional n) (Default m c) x y e = absurd cc
like_by_front (Default n d) _ x y e = absurd cc
like_by_front _ _ x y e = (cc, cc)

-- two well-formed trees at the start of one text, neither of them empty, begin with items like this
like_firsts : (i j : Item) (t u : Tree) (x y : List ℕ) → IsWellFormed (Then i t) → IsWellFormed (Then j u)
    → IsFollowed (Then i t) x → IsFollowed (Then j u) y → text (Then i t) ++ x ≡ text (Then j u) ++ y
    → IsLike i j × (text t ++ x ≡ text u ++ y)
like_firsts i j t u x y wt wu ft fu e =
    like_by_front i j (text t ++ x) (text u ++ y)
    (sym (front_tree i t x wt ft) ∙ ap beginning e ∙ front_tree j u y wu fu)

-- of two well-formed trees at the start of one text, one extends the other
pub one_goes_on : (t u : Tree) (x y : List ℕ) → IsWellFormed t → IsWellFormed u → IsFollowed t x
    → IsFollowed u y
    → text t ++ x ≡ text u ++ y → GoesOn t x u y ⊎ GoesOn u y t x
one_goes_on Empty u x y wt wu ft fu e = inl (record { more = u; tree = refl; well_formed = wu; rest = e })
one_goes_on t Empty x y wt wu ft fu e = inr (record { more = t; tree = refl; well_formed = wt; rest = sym e })
one_goes_on (Then (Default n d) t) (Then (Default m c) u) x y wt wu ft fu e =
    let l = like_firsts (Default n d) (Default m c) t u x y wt wu ft fu e in
    let inner =
    one_goes_on d c [] [] wt.0.1 wu.0.1 (followed_by_nothing d) (followed_by_nothing c)
    (ap (λ z. z ++ []) l.0.1) in
    goes_on_after (Default n d) (Default m c) t u x y (cc (l.0.0, same_by_ends d c inner))
    (one_goes_on t u x y wt.1 wu.1 (followed_tail (Default n d) t x ft) (followed_tail (Default m c) u y fu)
    l.1)
one_goes_on (Then i t) (Then j u) x y wt wu ft fu e =
    let l = like_firsts i j t u x y wt wu ft fu e in
    goes_on_after i j t u x y l.0
    (one_goes_on t u x y wt.1 wu.1 (followed_tail i t x ft) (followed_tail j u y fu) l.1)

-- a text is the text of at most one well-formed tree
pub same_tree : (t u : Tree) → IsWellFormed t → IsWellFormed u → text t ≡ text u → t ≡ u
same_tree t u wt wu e = search (rules, same_by_ends, one_goes_on, followed_by_nothing)

-- a source spells at most one tree
pub tree_unique : (s : List ℕ) (t u : Tree) → Spells t s → Spells u s → t ≡ u
tree_unique s t u a b = same_tree t u a.well_formed b.well_formed (sym a.spelled ∙ b.spelled)
