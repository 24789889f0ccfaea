-- Each text has one reading: as the text of one well-formed tree, or with one fault.
use Rattle.std.proofs.Common.{rules, ◌≡◌, ◌⊎◌, ℕ, ◌+◌, ◌<◌, List, ◌∷◌, ◌++◌, length, sym, subst, inl, inr, append-nil, add-zero}
use Rattle.subst_language.specs.Language.Bytes.{dollar, colon, opening_brace, closing_brace}
use Rattle.subst_language.specs.Language.Name.{IsName}
use Rattle.subst_language.specs.Language.Tree.{Item, Default, Tree, Empty, Then, item_text, text}
use Rattle.subst_language.specs.Language.Balanced.{IsBalanced}
use Rattle.subst_language.specs.Language.WellFormed.{IsItem}
use Rattle.subst_language.specs.Language.Sentence.{Spells}
use Rattle.subst_language.specs.Language.Followed.{IsFollowed}
use Rattle.subst_error.specs.Fault.{Fault}
use Rattle.subst_language.specs.Language.BadItem.{IsBad, HasFault}
use Rattle.subst_language.specs.Language.Laws.{OneTreeOrOneFault}
use Rattle.subst_language.specs.Language.BadItem.IsBad.{inside}
use Rattle.subst_language.specs.Language.BadItem.HasFault.{fault_after}
use Rattle.subst_language.proofs.Language.TreeLemmas.{spells_join}
use Rattle.subst_language.proofs.Language.ItemLemmas.{default_shorter, default_text, shorter_than_item}
use Rattle.subst_language.proofs.Language.FaultLemmas.{fault_after_tree, exclusive, fault_unique}
use Rattle.subst_language.proofs.Language.OneTreeLemmas.{tree_unique}
use Rattle.subst_language.proofs.Language.ListLemmas.{by_length}
use Rattle.subst_language.proofs.Language.BeginningLemmas.{Beginning, Nothing, Simple, WithDefault, Bad, BeginsSo, beginning, begins}

-- a tree of the text, or a fault of the text at byte offset p
abbrev pub Reading : ℕ → List ℕ → Type 0
Reading p s = ((t : Tree) × Spells t s) ⊎ ((f : Fault) × HasFault p s f)

-- a bad item at the start is a fault
read_fault : (p : ℕ) (s : List ℕ) (f : Fault) → IsBad p s f → HasFault p s f
read_fault p s f b = fault_after Empty tt (rw (add-zero p) b)

-- an item before a text that has a reading
read_item : (p : ℕ) (item : Item) (x s : List ℕ) → IsItem item Empty → IsFollowed (Then item Empty) x
    → s ≡ item_text item ++ x
    → Reading (p + length (item_text item)) x → Reading p s
read_item p item x s i l e (inl (t, a)) =
    let one : Spells (Then item Empty) (item_text item) =
    record { well_formed = (i, tt); spelled = sym (append-nil (item_text item)) } in
    inl (
      Then item t,
      subst (Spells (Then item t)) (sym e) (spells_join (Then item Empty) t (item_text item) x one a l),
    )
read_item p item x s i l e (inr (f, h)) =
    let n = append-nil (item_text item) in
    let k : s ≡ text (Then item Empty) ++ x = cc in
    inr (f, rw k (fault_after_tree p (Then item Empty) x f (i, tt) l (rw n h)))

-- a closed default that has a tree, before a text that has a reading; or a default with a fault
read_default : (p : ℕ) (n w x s : List ℕ) → IsName n → IsBalanced w
    → s ≡ dollar ∷ opening_brace ∷ n ++ (colon ∷ w ++ closing_brace ∷ x) → Reading (p + 3 + length n) w
    → ((d : Tree) → s ≡ item_text (Default n d) ++ x → Reading (p + length (item_text (Default n d))) x)
    → Reading p s
read_default p n w x s h b e (inl (d, a)) rest =
    let m = a.spelled in
    let t : s ≡ item_text (Default n d) ++ x = cc (default_text n (text d) x) in
    read_item p (Default n d) x s (h, a.well_formed, subst IsBalanced m b) tt t (rest d t)
read_default p n w x s h b e (inr (f, k)) rest =
    inr (f, read_fault p s f (rw e (inside n w x h b k)))

-- one step of the next lemma, if shorter texts have readings
read_step : (s : List ℕ) → ((w : List ℕ) → length w < length s → (p : ℕ) → Reading p w) → (p : ℕ)
    → Reading p s
read_step s shorter p = of (beginning s) (begins s)
  where
    of : (k : Beginning) → BeginsSo s k → Reading p s
    of Nothing e = inl (Empty, record { well_formed = tt; spelled = e })
    of (Simple item x) (i, l, e) =
        read_item p item x s i l e (shorter x (shorter_than_item item x s e) (p + length (item_text item)))
    of (WithDefault n w x) (h, b, e) =
        let l : length w < length s = rw e (default_shorter n w x) in
        read_default p n w x s h b e (shorter w l (p + 3 + length n))
        (λ d t. shorter x (shorter_than_item (Default n d) x s t) (p + length (item_text (Default n d))))
    of (Bad f) b = inr (f p, read_fault p s (f p) (b p))

-- each text is the text of a well-formed tree, or has a fault, wherever it begins
pub read : (s : List ℕ) (p : ℕ) → Reading p s
read = by_length (λ s. (p : ℕ) → Reading p s) read_step

-- a text with a fault at one byte offset has a fault at each
fault_at_each_position : (s : List ℕ) (q : ℕ) (g : Fault) → HasFault q s g → (p : ℕ)
    → (f : Fault) × HasFault p s f
fault_at_each_position s q g h p = of (read s p)
  where
    of : Reading p s → (f : Fault) × HasFault p s f
    of (inl t) = absurd (exclusive s t.0 q g t.1 h)
    of (inr f) = f

-- a text is a sentence, or has a fault at each byte offset
sentence_or_fault : (s : List ℕ) → ((t : Tree) × Spells t s) ⊎ ((p : ℕ) → (f : Fault) × HasFault p s f)
sentence_or_fault s = of (read s 0)
  where
    of : Reading 0 s → ((t : Tree) × Spells t s) ⊎ ((p : ℕ) → (f : Fault) × HasFault p s f)
    of (inl t) = inl t
    of (inr f) = inr (fault_at_each_position s 0 f.0 f.1)

-- each text has one reading
pub one_reading : (s : List ℕ) → OneTreeOrOneFault s
one_reading s = search (rules, sentence_or_fault, tree_unique, fault_unique, exclusive)
