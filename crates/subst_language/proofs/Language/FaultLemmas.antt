-- A text has at most one fault, and none if it is the text of a well-formed tree.
use Rattle.std.proofs.Common.{◌≡◌, ◌⊎◌, ℕ, ◌+◌, ◌<◌, List, [], ◌++◌, length, refl, sym, ap, ◌∙◌, subst, subst₂, inl, inr, add_assoc, append_assoc, append-nil, length-append, arith}
use Rattle.subst_language.specs.Language.Name.{IsNameByte}
use Rattle.subst_language.specs.Language.Name.{BeginsWithNo}
use Rattle.subst_language.specs.Language.Tree.{Item, Plain, Default, Tree, Empty, Then, text}
use Rattle.subst_language.specs.Language.WellFormed.{IsItem, IsWellFormed}
use Rattle.subst_language.specs.Language.Sentence.{Spells}
use Rattle.subst_language.specs.Language.Followed.{IsFollowed}
use Rattle.subst_error.specs.Fault.{Fault}
use Rattle.subst_language.specs.Language.BadItem.{IsBad, HasFault}
use Rattle.subst_language.specs.Language.BadItem.IsBad.{escape_at_end, escape}
use Rattle.subst_language.specs.Language.BadItem.HasFault.{fault_after}
use Rattle.subst_language.specs.Language.Join.{join}
use Rattle.subst_language.proofs.Language.TreeLemmas.{join_empty, text-join, well_formed_join, followed_front, followed_by_nothing, followed_by_no_name}
use Rattle.subst_language.proofs.Language.NameLemmas.{backslash_no_name, dollar_no_name}
use Rattle.subst_language.proofs.Language.BeginningLemmas.{Beginning, Nothing, Simple, WithDefault, Bad, beginning, item_beginning, BeginningHasFault, beginning-bad}
use Rattle.subst_language.proofs.Language.OneTreeLemmas.{front_tree, empty_text, GoesOn, one_goes_on}
use Rattle.subst_language.proofs.Language.ListLemmas.{by_length}

-- a bad item begins with a dollar or a backslash
pub begins_no_name : {p : ℕ} {r : List ℕ} {f : Fault} → IsBad p r f → BeginsWithNo IsNameByte r
begins_no_name escape_at_end = backslash_no_name
begins_no_name (escape n h) = backslash_no_name
begins_no_name _ = dollar_no_name

-- a bad item may follow each tree
followed_by_bad : {p : ℕ} {r : List ℕ} {f : Fault} (t : Tree) → IsBad p r f → IsFollowed t r
followed_by_bad {r = r} t b = followed_by_no_name t r (begins_no_name b)

-- a text that begins with a bad item isn't empty
bad_not_empty : {p : ℕ} {r : List ℕ} {f : Fault} → IsBad p r f → r ≡ [] → ⊥
bad_not_empty escape_at_end e = cc
bad_not_empty _ e = cc

-- the parts of a text with a fault: a well-formed tree, and then a bad item
pub record FaultParts (p : ℕ) (s : List ℕ) (f : Fault) : Type 0 where
  pub before : Tree
  pub after : List ℕ
  pub well_formed : IsWellFormed before
  pub bad : IsBad (p + length (text before)) after f
  pub parts : s ≡ text before ++ after

-- each text with a fault has these parts
pub fault_parts : {p : ℕ} {s : List ℕ} {f : Fault} → HasFault p s f → FaultParts p s f
fault_parts (fault_after {r = r} t w b) =
    record { before = t; after = r; well_formed = w; bad = b; parts = refl }

-- a text with these parts has the fault
pub fault_from_parts : {p : ℕ} {s : List ℕ} {f : Fault} → FaultParts p s f → HasFault p s f
fault_from_parts {p = p} {f = f} q =
    subst (λ x. HasFault p x f) (sym q.parts) (fault_after q.before q.well_formed q.bad)

-- a fault after the text of a well-formed tree is a fault of the whole
pub fault_after_tree : (p : ℕ) (t : Tree) (x : List ℕ) (f : Fault) → IsWellFormed t → IsFollowed t x
    → HasFault (p + length (text t)) x f → HasFault p (text t ++ x) f
fault_after_tree p t x f w l h =
    let q = fault_parts h in
    let k = q.parts in
    let m = followed_front t (text q.before) q.after (subst (IsFollowed t) k l) in
    let b : IsBad (p + length (text (join t q.before))) q.after f =
    rw (text-join t q.before, length-append, ← add_assoc) q.bad in
    fault_from_parts (record {
      before = join t q.before;
      after = q.after;
      well_formed = well_formed_join t q.before w q.well_formed m;
      bad = b;
      parts = cc (text-join t q.before, append_assoc (text t) (text q.before) q.after);
    })

-- if the text has a fault, it is the text of no well-formed tree
abbrev HasNoTree : List ℕ → Type 0
HasNoTree s = (t : Tree) (p : ℕ) (f : Fault) → IsWellFormed t → s ≡ text t → ¬ (HasFault p s f)

-- the beginning that is a well-formed item has no fault
item_has_no_fault : (item : Item) (rest : Tree) (x : List ℕ) (p m : ℕ) (f : Fault) → IsItem item rest
    → ((w : List ℕ) → length w < m → HasNoTree w) → ¬ (BeginningHasFault p m (item_beginning item x) f)
item_has_no_fault (Default n d) rest x p m f i shorter h =
    shorter (text d) h.0 d (p + 3 + length n) f i.1 refl h.1
item_has_no_fault (Plain b) rest x p m f i shorter h = h
item_has_no_fault _ rest x p m f i shorter h = h

-- no well-formed tree but the empty one is at the start of a text that begins with a bad item
bad_is_no_tree : {p : ℕ} {r : List ℕ} {f : Fault} (t : Tree) (x : List ℕ) → IsWellFormed t → IsFollowed t x
    → r ≡ text t ++ x
    → IsBad p r f → ((w : List ℕ) → length w < length r → HasNoTree w) → t ≡ Empty
bad_is_no_tree Empty x w l e b shorter = refl
bad_is_no_tree {p = p} {r = r} {f = f} (Then item t) x w l e b shorter =
    absurd (item_has_no_fault item t (text t ++ x) p (length r) f w.0 shorter
    (subst (λ k. BeginningHasFault p (length r) k f) (ap beginning e ∙ front_tree item t x w l)
    (beginning-bad b)))

-- a text shorter than the rest after the tree is shorter than the whole
shorter_after : {p : ℕ} {s : List ℕ} {f : Fault} (q : FaultParts p s f) (w : List ℕ)
    → length w < length q.after → length w < length s
shorter_after q w l = let e = ap length q.parts in omega (arith, length-append (text q.before) q.after)

-- one step of the next lemma, if shorter texts with a fault have no tree
no_tree_step : (s : List ℕ) → ((w : List ℕ) → length w < length s → HasNoTree w) → HasNoTree s
no_tree_step s shorter t p f w e h =
    let q = fault_parts h in
    of q
    (one_goes_on q.before t q.after [] q.well_formed w (followed_by_bad q.before q.bad)
    (followed_by_nothing t)
    (sym q.parts ∙ e ∙ sym (append-nil (text t))))
  where
    of : (q : FaultParts p s f) → GoesOn q.before q.after t [] ⊎ GoesOn t [] q.before q.after → ⊥
    of q (inl g) =
        let inner : (w : List ℕ) → length w < length q.after → HasNoTree w =
        λ w l. shorter w (shorter_after q w l) in
        let n = bad_is_no_tree g.more [] g.well_formed (followed_by_nothing g.more) g.rest q.bad inner in
        bad_not_empty q.bad (g.rest ∙ ap (λ u. text u ++ []) n)
    of q (inr g) =
        bad_not_empty q.bad (sym (g.rest ∙ ap (λ u. text u ++ q.after) (empty_text g.more q.after g.rest)))

-- a text with a fault is the text of no well-formed tree
pub no_tree_with_fault : (s : List ℕ) (t : Tree) (p : ℕ) (f : Fault) → IsWellFormed t → s ≡ text t
    → ¬ (HasFault p s f)
no_tree_with_fault = by_length HasNoTree no_tree_step

-- a sentence has no fault
pub exclusive : (s : List ℕ) (t : Tree) (p : ℕ) (f : Fault) → Spells t s → ¬ (HasFault p s f)
exclusive s t p f a = no_tree_with_fault s t p f a.well_formed a.spelled

-- the text has at most one fault at each byte offset
abbrev HasOneFault : List ℕ → Type 0
HasOneFault s = (p : ℕ) (f g : Fault) → HasFault p s f → HasFault p s g → f ≡ g

-- one beginning has one fault, if each shorter text has
same_front_bad : (p m : ℕ) (k : Beginning) (f g : Fault) → ((w : List ℕ) → length w < m → HasOneFault w)
    → BeginningHasFault p m k f → BeginningHasFault p m k g → f ≡ g
same_front_bad p m (Bad k) f g shorter h i = cc
same_front_bad p m (WithDefault n w x) f g shorter h k = shorter w h.0 (p + 3 + length n) f g h.1 k.1
same_front_bad p m Nothing f g shorter h k = absurd h
same_front_bad p m (Simple item x) f g shorter h k = absurd h

-- if one of two trees before a bad item extends the other, the two faults are equal
same_after : (s : List ℕ) (p : ℕ) (f g : Fault) (a : FaultParts p s f) (b : FaultParts p s g)
    → ((w : List ℕ) → length w < length s → HasOneFault w) → GoesOn a.before a.after b.before b.after
    → f ≡ g
same_after s p f g a b shorter o =
    let n =
    bad_is_no_tree o.more b.after o.well_formed (followed_by_bad o.more b.bad) o.rest a.bad
    (λ w l. no_tree_with_fault w) in
    let t : b.before ≡ a.before = o.tree ∙ ap (join a.before) n ∙ join_empty a.before in
    let r : b.after ≡ a.after = sym (o.rest ∙ ap (λ u. text u ++ b.after) n) in
    let c : IsBad (p + length (text a.before)) a.after g =
    subst₂ (λ u x. IsBad (p + length (text u)) x g) t r b.bad in
    same_front_bad (p + length (text a.before)) (length a.after) (beginning a.after) f g
    (λ w l. shorter w (shorter_after a w l)) (beginning-bad a.bad) (beginning-bad c)

-- one step of the next lemma, if shorter texts have one fault
one_fault_step : (s : List ℕ) → ((w : List ℕ) → length w < length s → HasOneFault w) → HasOneFault s
one_fault_step s shorter p f g h k =
    let a = fault_parts h in
    let b = fault_parts k in
    of a b (one_goes_on a.before b.before a.after b.after a.well_formed b.well_formed
    (followed_by_bad a.before a.bad) (followed_by_bad b.before b.bad) (sym a.parts ∙ b.parts))
  where
    of : (a : FaultParts p s f) (b : FaultParts p s g)
        → GoesOn a.before a.after b.before b.after ⊎ GoesOn b.before b.after a.before a.after → f ≡ g
    of a b (inl o) = same_after s p f g a b shorter o
    of a b (inr o) = sym (same_after s p g f b a shorter o)

-- a text has at most one fault at each byte offset that it may have
pub fault_unique : (s : List ℕ) (p : ℕ) (f g : Fault) → HasFault p s f → HasFault p s g → f ≡ g
fault_unique = by_length HasOneFault one_fault_step
