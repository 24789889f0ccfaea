-- Escaped texts: their trees and values.
use Rattle.std.proofs.Common.{rules, ◌≡◌, ◌≢◌, ℕ, ◌+◌, IsFalse, IsTrue, List, [], ◌∷◌, ◌++◌, length, None, refl, sym, ap, ◌∙◌, subst, append-nil}
use Rattle.std.specs.Prelude.{if◌then◌else◌}
use Rattle.std.proofs.lemmas.Bool.{cond_both, false≢true}
use Rattle.subst_language.specs.Language.Bytes.{dollar, colon, backslash, opening_brace, closing_brace}
use Rattle.subst_language.specs.Language.Name.{IsName}
use Rattle.subst_language.specs.Language.Tree.{Item, Plain, Escaped, Default, Tree, Empty, Then, item_text, text}
use Rattle.subst_language.specs.Language.Balanced.{IsBalanced}
use Rattle.subst_language.specs.Language.Balanced.IsBalanced.{empty, byte, escape}
use Rattle.subst_language.specs.Language.WellFormed.{IsItem, IsWellFormed}
use Rattle.subst_language.specs.Language.Sentence.{Spells}
use Rattle.subst_language.specs.Language.Escaped.{is_special, escaped_byte, escaped}
use Rattle.subst_language.specs.Language.LookUp.{LookUp}
use Rattle.subst_language.specs.Language.Value.{Bytes, found_or, joined, item_value, value}
use Rattle.subst_language.specs.Language.Answer.{Answers, Gives}
use Rattle.subst_language.proofs.Language.ValueLemmas.{joined-right}

-- the item of a byte: escaped if it is special
abbrev escape_item : ℕ → Item
escape_item b = if is_special b then Escaped b else Plain b

-- the tree of an escaped text
abbrev pub escapes : List ℕ → Tree
escapes [] = Empty
escapes (b ∷ x) = Then (escape_item b) (escapes x)

-- a byte that isn't special differs from one that is
not_special_differs : (b c : ℕ) → IsFalse (is_special b) → IsTrue (is_special c) → b ≢ c
not_special_differs b c not_special special e = false≢true (sym not_special ∙ ap is_special e ∙ special)

-- the text of a byte's item is the escaped byte
text-escape_item : (b : ℕ) → item_text (escape_item b) ≡ escaped_byte b
text-escape_item b = search (rules, is_special, item_text, backslash)

-- the text of the tree is the escaped text
pub text-escapes : (x : List ℕ) → text (escapes x) ≡ escaped x
text-escapes [] = refl
text-escapes (b ∷ x) =
    ap (λ y. y ++ text (escapes x)) (text-escape_item b) ∙ ap (λ y. escaped_byte b ++ y) (text-escapes x)

-- the value of the item is the byte
value-escape_item : (p b : ℕ) (look : LookUp) → item_value p (escape_item b) look ≡ Bytes (b ∷ [])
value-escape_item p b look = search (rules, is_special, item_value)

-- the value of the tree is the text
pub value-escapes : (p : ℕ) (x : List ℕ) (look : LookUp) → value p (escapes x) look ≡ Bytes x
value-escapes p [] look = refl
value-escapes p (b ∷ x) look =
    let q = p + length (item_text (escape_item b)) in
    ap (λ v. joined v (value q (escapes x) look)) (value-escape_item p b look)
    ∙ ap (joined (Bytes (b ∷ []))) (value-escapes q x look)

-- the item may be before each tree
fits-escape_item : (b : ℕ) (next : Tree) → IsItem (escape_item b) next
fits-escape_item b next = search (rules, cond_both, is_special, not_special_differs, dollar, backslash)

-- the tree is well-formed
pub well_formed_escapes : (x : List ℕ) → IsWellFormed (escapes x)
well_formed_escapes [] = tt
well_formed_escapes (b ∷ x) = (fits-escape_item b (escapes x), well_formed_escapes x)

-- an escaped byte before a balanced text is balanced
escaped_byte_balanced : (b : ℕ) (x : List ℕ) → IsBalanced x → IsBalanced (escaped_byte b ++ x)
escaped_byte_balanced b x inner =
    cond_both (is_special b) (backslash ∷ b ∷ []) (b ∷ []) (λ y. IsBalanced (y ++ x))
    (λ special. escape inner)
    (λ not_special. byte (not_special_differs b backslash not_special refl)
    (not_special_differs b opening_brace not_special refl)
    (not_special_differs b closing_brace not_special refl)
    inner)

-- an escaped text is balanced
pub escaped_balanced : (x : List ℕ) → IsBalanced (escaped x)
escaped_balanced [] = empty
escaped_balanced (b ∷ x) = escaped_byte_balanced b (escaped x) (escaped_balanced x)

-- an escaped text is a sentence
pub escaped_spells : (x : List ℕ) → Spells (escapes x) (escaped x)
escaped_spells x = record { well_formed = well_formed_escapes x; spelled = sym (text-escapes x) }

-- the answer of an escaped text is the text, under every look-up
pub escaped_gives : (x : List ℕ) (look : LookUp) → Answers (escaped x) look (Gives x)
escaped_gives x look = (escapes x, escaped_spells x, value-escapes 0 x look)

-- a variable whose default is an escaped text
abbrev with_default : List ℕ → List ℕ → Tree
with_default n x = Then (Default n (escapes x)) Empty

-- the text of a variable whose default is an escaped text
text-with_default : (n x : List ℕ)
    → text (with_default n x) ≡ dollar ∷ opening_brace ∷ n ++ (colon ∷ escaped x ++ closing_brace ∷ [])
text-with_default n x =
    append-nil (item_text (Default n (escapes x)))
    ∙ ap (λ y. dollar ∷ opening_brace ∷ n ++ (colon ∷ y ++ closing_brace ∷ [])) (text-escapes x)

-- the value of a variable whose default is an escaped text, if the name has no value
value-with_default : (n x : List ℕ) (look : LookUp) → look n ≡ None
    → value 0 (with_default n x) look ≡ Bytes x
value-with_default n x look none = search (rules, value, escapes, joined-right, found_or, value-escapes)

-- the answer of an escaped text as a default is the text, if the name has no value
pub escaped_default_gives : (n x : List ℕ) (look : LookUp) → IsName n → look n ≡ None
    → Answers (dollar ∷ opening_brace ∷ n ++ (colon ∷ escaped x ++ closing_brace ∷ [])) look (Gives x)
escaped_default_gives n x look named none =
    let balanced = subst IsBalanced (sym (text-escapes x)) (escaped_balanced x) in (
      with_default n x,
      record {
        well_formed = ((named, well_formed_escapes x, balanced), tt);
        spelled = sym (text-with_default n x);
      },
      value-with_default n x look none,
    )
