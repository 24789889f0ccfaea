-- Characters at the start of bytes.
use Rattle.std.proofs.lemmas.Grind.{common_steps}
use Rattle.std.proofs.Common.{◌≡◌, ℕ, ◌<◌, ◌≤◌, min, List, [], ◌∷◌, ◌++◌, length, take, get_or, refl, sym, ap, ◌∙◌, ⊎_elim, arith, length-append}
use Rattle.std.specs.Prelude.{encode_utf8, Result, Ok, Err, MatchResult}
use Rattle.std.specs.Result.{result_unwrap_or}
use Rattle.std.specs.Borrow.{Bor}
use Rattle.std.specs.Str.{IsUtf8, IsValidUpTo}
use Rattle.std.proofs.lemmas.Bool.{cases_lt}
use Rattle.std.proofs.lemmas.Str.{length-encode, len_utf8_bounds, IsUtf8-encode, encode_ascii, inside_one}
use Rattle.std.proofs.lemmas.List.{append_assoc, get_or_at, length-take-le, take-append-le, take-take, take_at}
use Rattle.subst_language.specs.Language.Character.{BeginsWithChar, IsFrontCharacter}
use Rattle.subst_error.specs.declared.CharOrByte.{CharOrByte}
use Rattle.subst_error.specs.declared.CharOrByte.TheVariants.{Char, Byte}
use Rattle.subst_language.specs.Language.Bytes.{closing_brace}
use Rattle.subst_language.proofs.Language.ListLemmas.{first_same, front_by_take}

-- a character has one to four bytes
character_length : (c : ℕ) → (0 < length (encode_utf8 c)) × (length (encode_utf8 c) ≤ 4)
character_length c =
    (omega (arith, length-encode c, len_utf8_bounds c), omega (arith, length-encode c, len_utf8_bounds c))

-- the character at the start of bytes is within their first four
character_within : (bytes : List ℕ) (k c : ℕ) → k ≡ min (length bytes) 4 → BeginsWithChar bytes c
    → length (encode_utf8 c) ≤ k
character_within bytes k c is (scalar, (rest, e)) =
    omega (arith, character_length c, ap length e, length-append (encode_utf8 c) rest)

-- if the first four bytes are none, no character is at the start
pub no_character_in_nothing : (bytes : List ℕ) (k : ℕ) → k ≡ min (length bytes) 4 → take k bytes ≡ []
    → (c : ℕ) → ¬ (BeginsWithChar bytes c)
no_character_in_nothing bytes k is none c begins =
    grind (arith, common_steps, character_length, character_within, length-take-le)

-- if no text is at the start of the first four bytes, no character is
pub no_character_in_no_text : (bytes : List ℕ) (k n : ℕ) → k ≡ min (length bytes) 4
    → IsValidUpTo (take k bytes) n → take n (take k bytes) ≡ []
    → (c : ℕ) → ¬ (BeginsWithChar bytes c)
no_character_in_no_text bytes k n is valid none c begins =
    let m = length (encode_utf8 c) in
    let within : m ≤ k = character_within bytes k c is begins in
    let nothing : n ≡ 0 =
    omega (
      arith,
      valid.short,
      ap length none,
      length-take-le n (take k bytes) (omega (arith, valid.short)),
    ) in
    let whole : take m (take k bytes) ≡ encode_utf8 c =
    take-take m k bytes within
    ∙ ap (λ (w : List ℕ). take m w) begins.1.1
    ∙ take_at (encode_utf8 c) begins.1.0 m refl in
    valid.longest m (omega (arith, character_length c)) (rw whole (IsUtf8-encode c begins.0))

-- bytes that are UTF-8 are read as themselves, whatever the replacement for others
pub read_text : {E : Type 0} (W : E → Type 0) (x : List ℕ) (r : Result (Bor (List ℕ)) E) (d : Bor (List ℕ))
    → IsUtf8 x
    → MatchResult r (λ s. (s.now ≡ x) × IsUtf8 x) (λ e. (¬ (IsUtf8 x)) × W e) → (result_unwrap_or r d).now ≡ x
read_text W x (Ok s) d valid cases = cases.0
read_text W x (Err e) d valid cases = absurd (cases.0 valid)

-- a closing brace is a character of one byte
closing_length : (c : ℕ) → c ≡ closing_brace → length (encode_utf8 c) ≡ 1
closing_length c is =
    ap (λ (k : ℕ). length (encode_utf8 k)) is ∙ ap length (encode_ascii closing_brace (omega arith))

-- a cut before a closing brace leaves the character at the start whole
character_cut : (x q rest : List ℕ) (c : ℕ) → 0 < length x → x ++ closing_brace ∷ q ≡ encode_utf8 c ++ rest
    → length (encode_utf8 c) ≤ length x
character_cut x q rest c some e =
    ⊎_elim (λ longer. absurd (cut longer)) (λ fits. fits) (cases_lt (length x) (length (encode_utf8 c)))
  where
    cut : ¬ (length x < length (encode_utf8 c))
    cut longer =
        let here : get_or (x ++ closing_brace ∷ q) (length x) 0 ≡ closing_brace =
        get_or_at x closing_brace q 0 (length x) refl in
        let is : c ≡ closing_brace =
        inside_one c rest (x ++ closing_brace ∷ q) (length x) e longer (omega arith) ∙ here in
        omega (arith, closing_length c is)

-- the character at the start of bytes before a closing brace is at the start of these bytes alone
begins_cut : (x q : List ℕ) (c : ℕ) → 0 < length x → BeginsWithChar (x ++ closing_brace ∷ q) c
    → BeginsWithChar x c
begins_cut x q c some (scalar, (rest, e)) =
    let m = length (encode_utf8 c) in
    let fits : m ≤ length x = character_cut x q rest c some e in
    let is : encode_utf8 c ≡ take m x =
    sym (take_at (encode_utf8 c) rest m refl)
    ∙ ap (λ (w : List ℕ). take m w) (sym e)
    ∙ take-append-le m x (closing_brace ∷ q) fits in
    (scalar, front_by_take m x is)

-- the character at the start of bytes is also at the start of longer bytes
pub begins_more : (x z : List ℕ) (c : ℕ) → BeginsWithChar x c → BeginsWithChar (x ++ z) c
begins_more x z c (scalar, (rest, e)) =
    (scalar, (rest ++ z, ap (λ (w : List ℕ). w ++ z) e ∙ append_assoc (encode_utf8 c) rest z))

-- the character or byte at the start of bytes before a closing brace is at the start of these bytes alone
pub front_cut : (b : ℕ) (x q : List ℕ) (c : CharOrByte) → IsFrontCharacter (b ∷ x ++ closing_brace ∷ q) c
    → IsFrontCharacter (b ∷ x) c
front_cut b x q (Char c) front = begins_cut (b ∷ x) q c (omega arith) front
front_cut b x q (Byte a) (none, (rest, e)) = (
  λ c begins. none c (begins_more (b ∷ x) (closing_brace ∷ q) c begins),
  (x, ap (λ (k : ℕ). k ∷ x) (first_same e)),
)
