-- Tests for names, balanced texts, well-formed trees and characters: `refl` proves that one passes.
use Rattle.std.proofs.Common.{rules, ◌≡◌, refl, ◌≢◌, ℕ, zero, suc, Bool, true, false, not, ◌&&◌, ◌==◌, IsTrue, if◌then◌else◌, List, [], ◌∷◌, sym, ◌∙◌, append-nil, true≢false, ◌<◌, ◌++◌, length, take, Option, Some, None, bytes_eq, ap, IsFalse, ltb, ltb-true, arith}
use Rattle.std.proofs.Math.Seq.{take-append_seam}
use Rattle.std.proofs.lemmas.Bool.{and_from, and_parts, eqb-false, ne_eqb, not-true}
use Rattle.std.proofs.lemmas.Slice.Eq.{bytes_eq-Decides}
use Rattle.std.proofs.lemmas.Str.{encode_ascii}
use Rattle.std.proofs.str.Decodes.{first-is}
use Rattle.std.specs.Char.{encode_utf8}
use Rattle.std.specs.List.{AllByRecursion}
use Rattle.std.specs.Prelude.{slice_get}
use Rattle.std.specs.Str.{chars}
use lib.Utf8.{scalar, low_scalar}
use Rattle.subst_error.specs.declared.CharOrByte.TheVariants.{Char, Byte}
use Rattle.subst_language.specs.Language.Balanced.{IsBalanced, empty, Closes}
use Rattle.subst_language.specs.Language.Bytes.{dollar, backslash, opening_brace, closing_brace, is_escapable}
use Rattle.subst_language.specs.Language.Character.{BeginsWithChar, IsFrontCharacter}
use Rattle.subst_language.specs.Language.Name.{is_name_byte, IsNameByte, IsName}
use Rattle.subst_language.specs.Language.Tree.{Item, Plain, Escaped, Short, Braced, Optional, Default, Tree, Empty, Then, text}
use Rattle.subst_language.specs.Language.WellFormed.{EndsName, IsItem, IsWellFormed}
use Rattle.subst_language.specs.Lemmas.Closing.{Completes}
use Rattle.subst_language.proofs.Language.ClosesOrNotLemmas.{BraceKind, escapes, opens, closes, counts_not, brace_kind}
use Rattle.subst_language.proofs.Language.ClosingLemmas.{closes_balanced, closes_nothing, closes_one, completes_byte, completes_escape, completes_opening, completes_closing}

-- a test for a text that closes this many open braces and is balanced after them; a backslash may be before
-- it
abbrev completes : (after_backslash : Bool) (open_braces : ℕ) → List ℕ → Bool
completes false zero [] = true
completes false (suc d) [] = false
completes true d [] = false
completes true d (b ∷ x) = completes false d x
completes false d (b ∷ x) =
    if b == backslash then completes true d x else
    if b == opening_brace then completes false (suc d) x else
    if b == closing_brace then elim d [ zero ↦ false | suc e ↦ completes false e x ] else
    completes false d x

-- the test is right after one byte, by the kind of the byte
completes_step : {b : ℕ} → BraceKind b → (d : ℕ) (x : List ℕ)
    → ((a : Bool) (e : ℕ) → IsTrue (completes a e x) → Completes e (if a then backslash ∷ x else x))
    → IsTrue (completes false d (b ∷ x)) → Completes d (b ∷ x)
completes_step escapes d x rest h = rest true d h
completes_step opens d x rest h = completes_opening d x (rest false (suc d) h)
completes_step closes zero x rest h = absurd (true≢false (sym h))
completes_step closes (suc d) x rest h = completes_closing d x (rest false d h)
completes_step (counts_not {b = b} n o c) d x rest h =
    let same : completes false d (b ∷ x) ≡ completes false d x =
    rw (ne_eqb b backslash n, ne_eqb b opening_brace o, ne_eqb b closing_brace c) in
    completes_byte d x b n o c (rest false d (sym same ∙ h))

-- the test is right
completes_from_test : (a : Bool) (d : ℕ) (x : List ℕ) → IsTrue (completes a d x)
    → Completes d (if a then backslash ∷ x else x)
completes_from_test false zero [] h = empty
completes_from_test false (suc d) [] h = absurd (true≢false (sym h))
completes_from_test true d [] h = absurd (true≢false (sym h))
completes_from_test true d (b ∷ x) h = completes_escape d x b (completes_from_test false d x h)
completes_from_test false d (b ∷ x) h =
    completes_step (brace_kind b) d x (λ a e. completes_from_test a e x) h

-- a test for a balanced text
abbrev pub is_balanced : List ℕ → Bool
is_balanced x = completes false 0 x

-- the test is right
pub balanced_from_test : (x : List ℕ) → IsTrue (is_balanced x) → IsBalanced x
balanced_from_test x h = completes_from_test false 0 x h

-- a balanced text doesn't close the brace that is open before it
pub balanced_never_closes : (x : List ℕ) → IsTrue (is_balanced x) → ¬ (Closes x)
balanced_never_closes x h c =
    closes_nothing 0 ((closes_balanced 0 [] (balanced_from_test x h)).0 (rw append-nil ((closes_one x).1 c)))

-- a test for name bytes alone
abbrev are_name_bytes : List ℕ → Bool
are_name_bytes [] = true
are_name_bytes (b ∷ bytes) = is_name_byte b && are_name_bytes bytes

-- a test for a name
abbrev pub is_name : List ℕ → Bool
is_name [] = false
is_name (b ∷ bytes) = is_name_byte b && are_name_bytes bytes

-- the test for name bytes is right
name_bytes_from_test : (bytes : List ℕ) → IsTrue (are_name_bytes bytes) → AllByRecursion IsNameByte bytes
name_bytes_from_test [] h = tt
name_bytes_from_test (b ∷ bytes) h =
    let p = and_parts (is_name_byte b) (are_name_bytes bytes) h in
    (p.0, name_bytes_from_test bytes p.1)

-- the test for a name is right
pub name_from_test : (n : List ℕ) → IsTrue (is_name n) → IsName n
name_from_test [] h = true≢false (sym h)
name_from_test (b ∷ bytes) h = search (rules, and_parts, is_name_byte, are_name_bytes, name_bytes_from_test)

-- a test for a tree before which a name ends
abbrev ends_name : Tree → Bool
ends_name (Then (Plain b) rest) = not (is_name_byte b)
ends_name _ = true

-- the test is right
ends_name_from_test : (t : Tree) → IsTrue (ends_name t) → EndsName t
ends_name_from_test Empty h = tt
ends_name_from_test (Then (Plain b) rest) h = λ e. cc
ends_name_from_test (Then (Escaped b) rest) h = tt
ends_name_from_test (Then (Short n) rest) h = tt
ends_name_from_test (Then (Braced n) rest) h = tt
ends_name_from_test (Then (Optional n) rest) h = tt
ends_name_from_test (Then (Default n t) rest) h = tt

abbrev mutual
  -- a test for an item, and the items that follow it
  pub is_item : Item → Tree → Bool
  is_item (Plain b) next = not (b == dollar) && not (b == backslash)
  is_item (Escaped b) next = is_escapable b
  is_item (Short n) next = is_name n && ends_name next
  is_item (Braced n) next = is_name n
  is_item (Optional n) next = is_name n
  is_item (Default n t) next = is_name n && (is_well_formed t && is_balanced (text t))

  -- a test for a well-formed tree
  pub is_well_formed : Tree → Bool
  is_well_formed Empty = true
  is_well_formed (Then item rest) = is_item item rest && is_well_formed rest

-- two bytes that a test distinguishes
other_byte : (b c : ℕ) → IsTrue (not (b == c)) → b ≢ c
other_byte b c h = eqb-false b c (not-true (b == c) h)

mutual
  -- the test for an item is right
  item_from_test : (item : Item) (rest : Tree) → IsTrue (is_item item rest) → IsItem item rest
  item_from_test (Plain b) rest h =
      let p = and_parts (not (b == dollar)) (not (b == backslash)) h in
      (other_byte b dollar p.0, other_byte b backslash p.1)
  item_from_test (Escaped b) rest h = h
  item_from_test (Short n) rest h =
      let p = and_parts (is_name n) (ends_name rest) h in
      (name_from_test n p.0, ends_name_from_test rest p.1)
  item_from_test (Braced n) rest h = name_from_test n h
  item_from_test (Optional n) rest h = name_from_test n h
  item_from_test (Default n t) rest h =
      let p = and_parts (is_name n) (is_well_formed t && is_balanced (text t)) h in
      let q = and_parts (is_well_formed t) (is_balanced (text t)) p.1 in
      (name_from_test n p.0, well_formed_from_test t q.0, balanced_from_test (text t) q.1)

  -- the test for a well-formed tree is right
  pub well_formed_from_test : (t : Tree) → IsTrue (is_well_formed t) → IsWellFormed t
  well_formed_from_test Empty h = tt
  well_formed_from_test (Then item rest) h =
      let p = and_parts (is_item item rest) (is_well_formed rest) h in
      (item_from_test item rest p.0, well_formed_from_test rest p.1)

-- an ASCII byte is the character at the front
pub ascii_in_front : (b : ℕ) (rest : List ℕ) → IsTrue (ltb b 128) → IsFrontCharacter (b ∷ rest) (Char b)
ascii_in_front b rest h =
    let l : b < 128 = ltb-true b 128 h in
    (low_scalar b (omega arith), (rest, ap (λ l. l ++ rest) (sym (encode_ascii b l))))

-- a test for bytes that begin with the character that is decoded first, if one is
abbrev begins_with : Option ℕ → List ℕ → Bool
begins_with None bytes = false
begins_with (Some c) bytes = scalar c && bytes_eq (take (length (encode_utf8 c)) bytes) (encode_utf8 c)

-- bytes that begin with a character pass it
begins_seen : (bytes : List ℕ) (c : ℕ) → BeginsWithChar bytes c
    → IsTrue (begins_with (slice_get (chars bytes) 0) bytes)
begins_seen bytes c (s, (rest, e)) =
    let found : Some c ≡ slice_get (chars bytes) 0 = first-is c rest s
    ∙ ap (λ l. slice_get (chars l) 0) (sym e) in
    let front : take (length (encode_utf8 c)) bytes ≡ encode_utf8 c =
    ap (take (length (encode_utf8 c))) e ∙ take-append_seam (encode_utf8 c) rest in
    ap (λ o. begins_with o bytes) (sym found)
    ∙ and_from (scalar c) _ s ((bytes_eq-Decides _ (encode_utf8 c)).1 front)

-- bytes that fail the test have no character at the front
pub byte_in_front : (b : ℕ) (rest : List ℕ)
    → IsFalse (begins_with (slice_get (chars (b ∷ rest)) 0) (b ∷ rest)) → IsFrontCharacter (b ∷ rest) (Byte b)
byte_in_front b rest h = (λ c k. true≢false (sym (begins_seen (b ∷ rest) c k) ∙ h), (rest, refl))
