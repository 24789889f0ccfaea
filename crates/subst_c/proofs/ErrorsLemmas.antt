-- The characters, bytes and names that records of faults have at their spans.
use Rattle.std.proofs.Common.{◌≡◌, ◌≤◌, ◌<◌, ℕ, Bool, true, false, List, ◌∷◌, ◌++◌, length, get_or, chars, arith, Option, Some, None, IsUtf8, refl, sym, ap, ◌∙◌}
use denote.Ref.{Bor}
use Rattle.std.proofs.Math.Utf8.{encode}
use Rattle.std.proofs.lemmas.List.{nil_from_length}
use Rattle.std.proofs.lemmas.Str.{IsUtf8-from_is_utf8, IsUtf8-past_char, chars-nil, chars_past_char, is_utf8-from_IsUtf8}
use Rattle.std.specs.Str.{is_utf8}
use Rattle.std.proofs.lemmas.Bool.Decides.{nat_tests}
use Rattle.std.proofs.lemmas.Option.{slice_get-get_or, slice_get_past}
use Rattle.std.specs.Option.{option_copied, option_map}
use Rattle.std.specs.Prelude.{IfSome, IsSome, is_some, nat_lt, slice_get}
use Rattle.subst_error.specs.Fault.{NoSuchVariable}
use Rattle.subst_error.specs.declared.CharOrByte.TheVariants.{Char, Byte}
use Rattle.subst_c.specs.Errors.{character_of, missing_fault, only_one}

-- bytes that aren't UTF-8 are tested so
pub not_utf8 : (bytes : List ℕ) → ¬ (IsUtf8 bytes) → is_utf8 bytes ≡ false
not_utf8 bytes isnt = of (is_utf8 bytes) refl
  where
    of : (b : Bool) → is_utf8 bytes ≡ b → is_utf8 bytes ≡ false
    of true is = absurd (isnt (IsUtf8-from_is_utf8 bytes is))
    of false is = is

-- a text of one character
pub one_character : (text rest : List ℕ) (c : ℕ) → IsUtf8 text → text ≡ encode c ++ rest → length rest ≡ 0
    → Some c ≡ only_one (chars text)
one_character text rest c is starts none =
    sym (ap only_one (chars_past_char text rest c is starts
    ∙ ap (λ r. c ∷ r) (ap chars (nil_from_length rest none) ∙ chars-nil)))

-- a text of two characters or more
pub more_characters : (text rest last : List ℕ) (c d : ℕ) → IsUtf8 text → text ≡ encode c ++ rest
    → rest ≡ encode d ++ last → None ≡ only_one (chars text)
more_characters text rest last c d is starts goes =
    sym (ap only_one (chars_past_char text rest c is starts
    ∙ ap (λ r. c ∷ r) (chars_past_char rest last d (IsUtf8-past_char text rest c is starts) goes)))

-- a name that is UTF-8 states a missing variable
pub name_found : (position : ℕ) (bytes name : List ℕ) → IsUtf8 bytes → name ≡ bytes
    → IsSome (missing_fault position bytes) × (Some (NoSuchVariable position name) ≡ missing_fault position bytes)
name_found position bytes name is same =
    let text : is_utf8 bytes ≡ true = is_utf8-from_IsUtf8 bytes is in
    rw text (refl, ap (λ n. Some (NoSuchVariable position n)) same)

-- the character that a text is
pub character_in_text : (bytes : List ℕ) (c : ℕ) → IsUtf8 bytes → Some c ≡ only_one (chars bytes)
    → Some (Char c) ≡ character_of bytes
character_in_text bytes c is only =
    let text : is_utf8 bytes ≡ true = is_utf8-from_IsUtf8 bytes is in
    rw text (ap (option_map Char) only)

-- a text that isn't one character
pub no_character_in_text : (bytes : List ℕ) → IsUtf8 bytes → None ≡ only_one (chars bytes)
    → None ≡ character_of bytes
no_character_in_text bytes is none =
    let text : is_utf8 bytes ≡ true = is_utf8-from_IsUtf8 bytes is in
    rw text (ap (option_map Char) none)

-- the byte that bytes which aren't UTF-8 are, if any
pub byte_in_bytes : (bytes : List ℕ) (found : Option ℕ) → ¬ (IsUtf8 bytes) → found ≡ only_one bytes
    → option_map Byte found ≡ character_of bytes
byte_in_bytes bytes found isnt is = rw (not_utf8 bytes isnt) (ap (option_map Byte) is)

-- a byte that is copied at an index is that of the list
pub copied_at : (s : List ℕ) (i : ℕ) (found : Option (Bor ℕ)) → is_some found ≡ nat_lt i (length s)
    → IfSome found (λ b. b.now ≡ get_or s i b.now) → option_copied found ≡ slice_get s i
copied_at s i (Some b) within at =
    let below : i < length s = grind (arith, nat_tests, within) in
    ap (λ x. Some x) at ∙ sym (slice_get-get_or s i b.now below)
copied_at s i None within at =
    let past : length s ≤ i = grind (arith, nat_tests, within) in
    sym (slice_get_past s i past)
