-- The texts of items: their lengths, induction by the length of a text, and which of them have braces that
-- match.
use Rattle.std.proofs.Common.{◌≡◌, ℕ, ◌<◌, List, [], ◌∷◌, ◌++◌, length, ap, subst, append_assoc, length-append, arith}
use Rattle.subst_language.specs.Language.Bytes.{dollar, colon, question_mark, opening_brace, closing_brace, backslash}
use Rattle.subst_language.specs.Language.Name.{IsName}
use Rattle.subst_language.specs.Language.Tree.{Item, Plain, item_text}
use Rattle.subst_language.specs.Language.Balanced.{IsBalanced}
use Rattle.subst_language.specs.Language.Balanced.IsBalanced.{empty, byte, escape, braces}
use Rattle.subst_language.proofs.Language.NameLemmas.{name_balanced}
use Rattle.subst_language.proofs.Language.BalancedLemmas.{balanced_append}

-- an item has at least one byte
pub item_longer : (item : Item) → 0 < length (item_text item)
item_longer (Plain b) = omega arith
item_longer _ = omega arith

-- the rest after an item is shorter than the text
pub shorter_than_item : (item : Item) (x s : List ℕ) → s ≡ item_text item ++ x → length x < length s
shorter_than_item item x s e =
    let l = ap length e in omega (arith, length-append (item_text item) x, item_longer item)

-- a default is shorter than the text that begins with its placeholder
pub default_shorter : (n w x : List ℕ)
    → length w < length (dollar ∷ opening_brace ∷ n ++ (colon ∷ w ++ closing_brace ∷ x))
default_shorter n w x =
    omega (arith, length-append n (colon ∷ w ++ closing_brace ∷ x), length-append w (closing_brace ∷ x))

-- a placeholder with the default w, before the text x
pub default_text : (n w x : List ℕ) → (dollar ∷ opening_brace ∷ n ++ (colon ∷ w ++ closing_brace ∷ [])) ++ x
    ≡ dollar ∷ opening_brace ∷ n ++ (colon ∷ w ++ closing_brace ∷ x)
default_text n w x = simp append_assoc

-- a dollar before a balanced text
dollar_balanced : {x : List ℕ} → IsBalanced x → IsBalanced (dollar ∷ x)
dollar_balanced inner = byte (omega arith) (omega arith) (omega arith) inner

-- `$name` is balanced
pub short_balanced : (n : List ℕ) → IsName n → IsBalanced (dollar ∷ n)
short_balanced n named = dollar_balanced (name_balanced n named)

-- `${name}` is balanced
pub braced_balanced : (n : List ℕ) → IsName n → IsBalanced (dollar ∷ opening_brace ∷ n ++ closing_brace ∷ [])
braced_balanced n named = dollar_balanced (braces (name_balanced n named) empty)

-- a name and a balanced text in braces after a dollar are balanced
in_braces_balanced : (n w : List ℕ) → IsName n → IsBalanced w
    → IsBalanced (dollar ∷ opening_brace ∷ n ++ (w ++ closing_brace ∷ []))
in_braces_balanced n w named inner =
    dollar_balanced
    (subst (λ (u : List ℕ). IsBalanced (opening_brace ∷ u)) (append_assoc n w (closing_brace ∷ []))
    (braces (balanced_append (name_balanced n named) inner) empty))

-- `${name?}` is balanced
pub optional_balanced : (n : List ℕ) → IsName n
    → IsBalanced (dollar ∷ opening_brace ∷ n ++ (question_mark ∷ closing_brace ∷ []))
optional_balanced n named =
    in_braces_balanced n (question_mark ∷ []) named (byte (omega arith) (omega arith) (omega arith) empty)

-- `${name:default}` is balanced if the default is
pub default_balanced : (n w : List ℕ) → IsName n → IsBalanced w
    → IsBalanced (dollar ∷ opening_brace ∷ n ++ (colon ∷ w ++ closing_brace ∷ []))
default_balanced n w named inner =
    in_braces_balanced n (colon ∷ w) named (byte (omega arith) (omega arith) (omega arith) inner)

-- an escape is balanced
pub escape_balanced : (b : ℕ) → IsBalanced (backslash ∷ b ∷ [])
escape_balanced b = escape empty
