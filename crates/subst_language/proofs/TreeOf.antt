-- The computed tree of a source that is written out: a caller with such a source writes `refl`, and no tree.
-- Functions to write a tree by hand.
use Rattle.std.proofs.Common.{rules, ◌≡◌, IsTrue, inr, ℕ, zero, suc, ◌==◌, Bool, true, false, ◌&&◌, if◌then◌else◌, List, [], ◌∷◌, Option, Some, None, option_map, bytes_eq, refl, subst}
use Rattle.std.proofs.lemmas.Bool.{and_parts}
use Rattle.std.proofs.lemmas.Slice.Eq.{bytes_eq-Decides}
use Rattle.subst_error.specs.Fault.{NoSuchVariable}
use Rattle.subst_language.specs.Language.Bytes.{dollar, colon, question_mark, backslash, opening_brace, closing_brace}
use Rattle.subst_language.specs.Language.Name.{is_name_byte}
use Rattle.subst_language.specs.Language.Tree.{Item, Escaped, Plain, Short, Braced, Optional, Default, Tree, Empty, Then, text}
use Rattle.subst_language.specs.Language.Sentence.{Spells}
use Rattle.subst_language.specs.Language.LookUp.{LookUp}
use Rattle.subst_language.specs.Language.Value.{Value, value, Bytes, Missing}
use Rattle.subst_language.specs.Language.Answer.{Answers, Gives, Refuses}
use Rattle.subst_language.proofs.TestLemmas.{is_well_formed, well_formed_from_test}

-- a byte before the first of two texts
abbrev before : ℕ → List ℕ × List ℕ → List ℕ × List ℕ
before b (x, y) = (b ∷ x, y)

-- the name bytes at the start of a text, and the rest
abbrev after_name : List ℕ → List ℕ × List ℕ
after_name [] = ([], [])
after_name (b ∷ s) = if is_name_byte b then before b (after_name s) else ([], b ∷ s)

-- the text up to the brace that closes a default, and the rest after that, if `open_braces` more are open
abbrev cut : (after_backslash : Bool) (open_braces : ℕ) → List ℕ → List ℕ × List ℕ
cut after_backslash n [] = ([], [])
cut true n (b ∷ s) = before b (cut false n s)
cut false n (b ∷ s) =
    if b == backslash then before b (cut true n s) else
    if b == opening_brace then before b (cut false (suc n) s) else
    if b == closing_brace then elim n [ zero ↦ ([], s) | suc m ↦ before b (cut false m s) ] else
    before b (cut false n s)

-- the tree of the text after `${name`; `next` reads the rest
abbrev in_braces : (next : List ℕ → Tree) → List ℕ × List ℕ → Tree
in_braces next (n, []) = Empty
in_braces next (n, b ∷ s) =
    if b == closing_brace then Then (Braced n) (next s) else
    if b == colon then (let (w, rest) = cut false 0 s in Then (Default n (next w)) (next rest)) else
    if b == question_mark then elim s [ [] ↦ Empty | (c ∷ rest) ↦ Then (Optional n) (next rest) ] else
    Empty

-- the tree of the text after a dollar
abbrev after_dollar : (next : List ℕ → Tree) → List ℕ → Tree
after_dollar next [] = Empty
after_dollar next (b ∷ s) =
    if b == opening_brace then in_braces next (after_name s) else
    (let (n, rest) = after_name (b ∷ s) in Then (Short n) (next rest))

-- the tree of the text after a backslash
abbrev after_backslash : (next : List ℕ → Tree) → List ℕ → Tree
after_backslash next [] = Empty
after_backslash next (b ∷ s) = Then (Escaped b) (next s)

-- the tree of a text that is no longer than `within`; of a text with a fault some tree
abbrev read_within : (within : List ℕ) → List ℕ → Tree
read_within [] s = Empty
read_within (_ ∷ within) [] = Empty
read_within (_ ∷ within) (b ∷ s) =
    if b == backslash then after_backslash (read_within within) s else
    if b == dollar then after_dollar (read_within within) s else
    Then (Plain b) (read_within within s)

-- the tree, if the text is its text and it is well-formed
abbrev tested : List ℕ → Tree → Option Tree
tested s t = if is_well_formed t && bytes_eq s (text t) then Some t else None

-- the tree of a text, if it passes the test; a text that is no sentence has none
abbrev pub tree_of : List ℕ → Option Tree
tree_of s = tested s (read_within s s)

-- a tree that passes the test is the text's tree
passed : (s : List ℕ) (u t : Tree) (test : Bool) → (is_well_formed u && bytes_eq s (text u)) ≡ test
    → (if test then Some u else None) ≡ Some t → Spells t s
passed s u t true is found =
    let (formed, same) = and_parts (is_well_formed u) (bytes_eq s (text u)) is in
    let tree : u ≡ t = cc in
    subst (λ w. Spells w s) tree
    (record { well_formed = well_formed_from_test u formed; spelled = (bytes_eq-Decides s (text u)).0 same })
passed s u t false is found = absurd cc

-- a computed tree is the source's tree
pub spelled : (s : List ℕ) (t : Tree) → tree_of s ≡ Some t → Spells t s
spelled s t found = passed s (read_within s s) t _ refl found

-- the value of that tree under a look-up
abbrev pub value_of : List ℕ → LookUp → Option Value
value_of s look = option_map (λ t. value 0 t look) (tree_of s)

-- a value that is computed is that of the source's tree
computed : (s : List ℕ) (look : LookUp) (v : Value) → value_of s look ≡ Some v
    → (t : Tree) × Spells t s × (value 0 t look ≡ v)
computed s look v is = search (rules, tree_of, spelled, option_map, value)

-- if the computed value of a source is bytes, these are its answer
pub computed_gives : (s x : List ℕ) (look : LookUp) → value_of s look ≡ Some (Bytes x)
    → Answers s look (Gives x)
computed_gives s x look is = computed s look (Bytes x) is

-- a source whose value is a missing variable is refused for it
pub computed_missing : (s : List ℕ) (position : ℕ) (name : List ℕ) (look : LookUp)
    → value_of s look ≡ Some (Missing position name) → Answers s look (Refuses (NoSuchVariable position name))
computed_missing s position name look is = search (rules, computed, inr)

-- if a tree passes the test and its value under the look-up is bytes, these are the answer of its text
pub gives : (s x : List ℕ) (look : LookUp) (t : Tree) → IsTrue (is_well_formed t) → s ≡ text t
    → value 0 t look ≡ Bytes x → Answers s look (Gives x)
gives s x look t w e v = (t, record { well_formed = well_formed_from_test t w; spelled = e }, v)

-- the bytes as items that are for themselves, before the items of a tree
abbrev pub plain : List ℕ → Tree → Tree
plain [] rest = rest
plain (b ∷ bytes) rest = Then (Plain b) (plain bytes rest)

-- the bytes alone
abbrev pub only_plain : List ℕ → Tree
only_plain bytes = plain bytes Empty

-- an item alone
abbrev pub only : Item → Tree
only item = Then item Empty
