-- Sources in UTF-8: they may be cut at ASCII bytes, and filled in with values in UTF-8 they are UTF-8.
use Rattle.std.proofs.Common.{◌≡◌, ℕ, ◌+◌, ◌<◌, Option, Some, None, List, [], ◌∷◌, ◌++◌, length, get_or, refl, sym, subst, append_assoc, length-append, arith}
use Rattle.std.proofs.Math.Seq.{take-append_seam, drop-append-add, get_or-append_seam}
use Rattle.std.proofs.lemmas.Bool.Decides.{nat_tests}
use Rattle.std.proofs.lemmas.Str.{IsUtf8-take, IsUtf8-drop, IsUtf8-append, IsUtf8-from_ascii, IsUtf8-nil, IsCharBoundary-before_ascii, IsCharBoundary-after_ascii}
use Rattle.std.proofs.lemmas.Str.Ascii.{IsAscii-nil, IsAscii-cons}
use Rattle.std.specs.List.{AllByRecursion}
use Rattle.std.specs.Str.{IsUtf8}
use Rattle.subst_language.specs.Language.Bytes.{dollar, colon, question_mark, backslash, opening_brace, closing_brace, IsEscapable}
use Rattle.subst_language.specs.Language.Name.{IsName, IsNameByte}
use Rattle.subst_language.specs.Language.Tree.{Item, Plain, Escaped, Short, Braced, Optional, Default, Tree, Empty, Then, item_text, text}
use Rattle.subst_language.specs.Language.WellFormed.{IsItem, IsWellFormed}
use Rattle.subst_language.specs.Language.LookUp.{LookUp, GivesTexts}
use Rattle.subst_language.specs.Language.Value.{Value, Bytes, Missing, joined, found_or, item_value, value}
use Rattle.subst_language.proofs.Language.NameLemmas.{name_byte_ascii, name_bytes}

-- the texts before and after an ASCII byte in UTF-8 are UTF-8
pub cut_at : (x y : List ℕ) (b : ℕ) → b < 128 → IsUtf8 (x ++ b ∷ y) → IsUtf8 x × IsUtf8 y
cut_at x y b ascii is =
    let s = x ++ b ∷ y in
    let n = length x in
    let here : get_or s n 0 ≡ b = get_or-append_seam x b y 0 in
    let below : get_or s n 0 < 128 = omega (arith, here, ascii) in
    let inside : n < length s = omega (arith, length-append x (b ∷ y)) in
    let before = IsUtf8-take s n is (IsCharBoundary-before_ascii s n inside below) in
    let after = IsUtf8-drop s (n + 1) is (IsCharBoundary-after_ascii s n is inside below) in
    (subst IsUtf8 (take-append_seam x (b ∷ y)) before, subst IsUtf8 (drop-append-add x (b ∷ y) 1) after)

-- the rest after an ASCII byte is UTF-8
pub after_ascii : (x : List ℕ) (b : ℕ) → b < 128 → IsUtf8 (b ∷ x) → IsUtf8 x
after_ascii x b ascii is = (cut_at [] x b ascii is).1

-- the rest after name bytes is UTF-8
after_name_bytes : (n x : List ℕ) → AllByRecursion IsNameByte n → IsUtf8 (n ++ x) → IsUtf8 x
after_name_bytes [] x each is = is
after_name_bytes (b ∷ n) x each is =
    after_name_bytes n x each.1 (after_ascii (n ++ x) b (name_byte_ascii b each.0) is)

-- the rest after a name is UTF-8
pub after_name : (n x : List ℕ) → IsName n → IsUtf8 (n ++ x) → IsUtf8 x
after_name n x named is = after_name_bytes n x (name_bytes n named) is

-- the texts before a placeholder in braces and after its name are UTF-8
pub in_braces : (u n x w : List ℕ) → IsName n → IsUtf8 (u ++ (dollar ∷ opening_brace ∷ ((n ++ x) ++ w)))
    → IsUtf8 u × IsUtf8 (x ++ w)
in_braces u n x w named is =
    let (before, braced) = cut_at u (opening_brace ∷ ((n ++ x) ++ w)) dollar (omega arith) is in
    let inside = after_ascii ((n ++ x) ++ w) opening_brace (omega arith) braced in
    (before, after_name n (x ++ w) named (subst IsUtf8 (append_assoc n x w) inside))

-- a special byte is ASCII
pub escapable_ascii : (b : ℕ) → IsEscapable b → b < 128
escapable_ascii b is = grind (arith, nat_tests)

-- an ASCII byte alone is UTF-8
pub ascii_alone : (b : ℕ) → b < 128 → IsUtf8 (b ∷ [])
ascii_alone b ascii = IsUtf8-from_ascii (b ∷ []) (IsAscii-cons b [] ascii IsAscii-nil)

-- if two values joined are bytes, both are bytes
joined_bytes : (v w : Value) (x : List ℕ) → joined v w ≡ Bytes x
    → (y z : List ℕ) × (v ≡ Bytes y) × (w ≡ Bytes z) × (y ++ z ≡ x)
joined_bytes (Bytes y) (Bytes z) x e = (y, z, refl, refl, cc)
joined_bytes (Bytes y) (Missing position name) x e = absurd cc
joined_bytes (Missing position name) w x e = absurd cc

-- a value found under a look-up of texts is UTF-8, if its replacement is
found_text : (found : Option (List ℕ)) (v : Value) (x : List ℕ) → ((y : List ℕ) → found ≡ Some y → IsUtf8 y)
    → (v ≡ Bytes x → IsUtf8 x) → found_or found v ≡ Bytes x → IsUtf8 x
found_text (Some y) v x texts other e = let same : y ≡ x = cc in subst IsUtf8 same (texts y refl)
found_text None v x texts other e = other e

-- UTF-8 before an item, the value of the item, and UTF-8 after it
pub between : (u x y : List ℕ) → IsUtf8 u → IsUtf8 x → IsUtf8 y → IsUtf8 (u ++ (x ++ y))
between u x y before inside after = IsUtf8-append u (x ++ y) before (IsUtf8-append x y inside after)

mutual
  -- An item between the bytes u and w, in UTF-8: with its value instead of it, and z instead of w, it is
  -- UTF-8, if z may replace w at the end of any UTF-8.
  item_filled : (item : Item) (next : Tree) (p : ℕ) (look : LookUp) (u w y z : List ℕ) → IsItem item next
      → GivesTexts look → IsUtf8 (u ++ (item_text item ++ w)) → item_value p item look ≡ Bytes y
      → ((v : List ℕ) → IsUtf8 (v ++ w) → IsUtf8 (v ++ z)) → IsUtf8 (u ++ (y ++ z))
  item_filled (Plain b) next p look u w y z fits texts is gives goes_on =
      let same : b ∷ [] ≡ y = cc in
      let ends = subst IsUtf8 (sym (append_assoc u (b ∷ []) w)) is in
      subst (λ x. IsUtf8 (u ++ (x ++ z))) same
      (subst IsUtf8 (append_assoc u (b ∷ []) z) (goes_on (u ++ b ∷ []) ends))
  item_filled (Escaped b) next p look u w y z fits texts is gives goes_on =
      let same : b ∷ [] ≡ y = cc in
      let ascii = escapable_ascii b fits in
      let (before, escaped) = cut_at u (b ∷ w) backslash (omega arith) is in
      let after = goes_on [] (after_ascii w b ascii escaped) in
      between u y z before (subst IsUtf8 same (ascii_alone b ascii)) after
  item_filled (Short n) next p look u w y z fits texts is gives goes_on =
      let (before, name) = cut_at u (n ++ w) dollar (omega arith) is in
      between u y z before (found_text (look n) _ y (texts n) (λ e. absurd cc) gives)
      (goes_on [] (after_name n w fits.0 name))
  item_filled (Braced n) next p look u w y z fits texts is gives goes_on =
      let (before, closing) = in_braces u n (closing_brace ∷ []) w fits is in
      between u y z before (found_text (look n) _ y (texts n) (λ e. absurd cc) gives)
      (goes_on [] (after_ascii w closing_brace (omega arith) closing))
  item_filled (Optional n) next p look u w y z fits texts is gives goes_on =
      let (before, marked) = in_braces u n (question_mark ∷ closing_brace ∷ []) w fits is in
      let closing = after_ascii (closing_brace ∷ w) question_mark (omega arith) marked in
      let nothing = λ (e : Bytes [] ≡ Bytes y). let same : [] ≡ y = cc in subst IsUtf8 same IsUtf8-nil in
      between u y z before (found_text (look n) _ y (texts n) nothing gives)
      (goes_on [] (after_ascii w closing_brace (omega arith) closing))
  item_filled (Default n t) next p look u w y z fits texts is gives goes_on =
      let (before, separated) = in_braces u n (colon ∷ text t ++ closing_brace ∷ []) w fits.0 is in
      let behind = after_ascii ((text t ++ closing_brace ∷ []) ++ w) colon (omega arith) separated in
      let closing = subst IsUtf8 (append_assoc (text t) (closing_brace ∷ []) w) behind in
      let (inside, after) = cut_at (text t) w closing_brace (omega arith) closing in
      let of_default = tree_filled t (p + 3 + length n) look [] y fits.1 texts inside in
      between u y z before (found_text (look n) _ y (texts n) of_default gives) (goes_on [] after)

  -- a tree's text after the bytes u, in UTF-8, is UTF-8 with the tree's value instead of it
  pub tree_filled : (t : Tree) (p : ℕ) (look : LookUp) (u x : List ℕ) → IsWellFormed t → GivesTexts look
      → IsUtf8 (u ++ text t) → value p t look ≡ Bytes x → IsUtf8 (u ++ x)
  tree_filled Empty p look u x fits texts is gives =
      let same : [] ≡ x = cc in subst (λ y. IsUtf8 (u ++ y)) same is
  tree_filled (Then item rest) p look u x fits texts is gives =
      let q = p + length (item_text item) in
      let (y, z, here, there, same) =
      joined_bytes (item_value p item look) (value q rest look) x gives in
      subst (λ v. IsUtf8 (u ++ v)) same
      (item_filled item rest p look u (text rest) y z fits.0 texts is here
      (λ v ends. tree_filled rest q look v z fits.1 texts ends there))

-- the value of a tree whose text is UTF-8 is UTF-8 under a look-up of texts
pub value_is_text : (t : Tree) (p : ℕ) (look : LookUp) (x : List ℕ) → IsWellFormed t → GivesTexts look
    → IsUtf8 (text t) → value p t look ≡ Bytes x → IsUtf8 x
value_is_text t p look x fits texts is gives = tree_filled t p look [] x fits texts is gives
