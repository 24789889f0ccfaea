-- Lemmas on entries of the form NAME=VALUE.
use Rattle.std.proofs.Common.{◌≡◌, ◌<◌, ◌≤◌, ◌↔◌, ℕ, Bool, true, false, List, [], ◌∷◌, length, ltb, if◌then◌else◌, Option, Some, None, IsTrue, not, refl, sym, subst, ap, ◌∙◌, arith}
use Rattle.std.proofs.lemmas.Bool.{ltb-false}
use Rattle.std.proofs.lemmas.Bool.Decides.{same_from_decides}
use Rattle.std.proofs.lemmas.List.Elements.{All-from_recursion, recursion_from_All}
use Rattle.std.proofs.lemmas.List.Sums.{AllPass-from_list_all, list_all-from_AllPass, prefix_len-le-length}
use Rattle.std.specs.List.{position_or_len}
use Rattle.std.proofs.lemmas.Str.{IsUtf8-from_is_utf8, is_utf8-from_IsUtf8}
use Rattle.std.specs.Option.{unwrap_or}
use Rattle.std.specs.Str.{IsUtf8, is_utf8}
use Rattle.subst_filter_lib.proofs.ArgumentLemmas.{is_some_if_passes}
use Rattle.subst_filter_lib.specs.Arguments.{is_equals_sign, is_pair, name_in, value_in}
use Rattle.subst_language.specs.Language.Name.{is_name_byte, IsName, IsNameByte}
use Rattle.subst_expander.specs.Layers.{entry_in, is_spelled, text_in}

-- bytes are a variable name exactly if they are a name
spelled_iff : (name : List ℕ) → IsTrue (is_spelled name) ↔ IsName name
spelled_iff [] = (λ yes. absurd cc, λ is. absurd is)
spelled_iff (b ∷ bytes) = (
  λ yes. recursion_from_All IsNameByte (b ∷ bytes) (AllPass-from_list_all is_name_byte (b ∷ bytes) yes),
  λ each. list_all-from_AllPass is_name_byte (b ∷ bytes) (All-from_recursion IsNameByte (b ∷ bytes) each),
)

-- a test for names is one for variable names
pub spelled_by : (result : Bool) (name : List ℕ) → IsTrue result ↔ IsName name → is_spelled name ≡ result
spelled_by result name test = same_from_decides (is_spelled name) result (spelled_iff name) test

-- bytes without `=` have no entry
pub no_pair : (bytes : List ℕ) → position_or_len is_equals_sign bytes ≡ length bytes → None ≡ entry_in bytes
no_pair bytes none =
    let unpaired = is_some_if_passes {X = ℕ} (λ x. Unit {0}) (λ x. Unit {0}) is_equals_sign bytes None none in
    rw (sym unpaired) refl

-- bytes with `=` are a pair
paired : (bytes : List ℕ) → position_or_len is_equals_sign bytes < length bytes → is_pair bytes ≡ true
paired bytes below =
    sym (is_some_if_passes {X = ℕ} (λ x. Unit {0}) (λ x. Unit {0}) is_equals_sign bytes (Some 0)
    (below, tt, tt))

-- a pair whose name isn't a variable name has no entry
pub misspelled : (bytes name : List ℕ) (test : Bool) → position_or_len is_equals_sign bytes < length bytes
    → name ≡ name_in bytes → IsTrue test ↔ IsName name → test ≡ false → None ≡ entry_in bytes
misspelled bytes name test below same told is =
    let spelled = subst (λ other. is_spelled other ≡ false) same (spelled_by test name told ∙ is) in
    rw (paired bytes below, spelled) refl

-- a pair whose name is a variable name has an entry
pub spelled : (bytes name value taken : List ℕ) (given : Option (List ℕ)) (test : Bool)
    → position_or_len is_equals_sign bytes < length bytes → name ≡ name_in bytes → value ≡ value_in bytes
    → IsTrue test ↔ IsName name → test ≡ true → taken ≡ name → given ≡ text_in value
    → Some (record { name = taken; value = given }) ≡ entry_in bytes
spelled bytes name value taken given test below same rest told is named valued =
    let spelled = subst (λ other. is_spelled other ≡ true) same (spelled_by test name told ∙ is) in
    let taken_is : taken ≡ name_in bytes = named ∙ same in
    let given_is : given ≡ text_in (value_in bytes) = valued ∙ ap text_in rest in
    rw (paired bytes below, spelled, taken_is, given_is) refl

-- bytes that aren't UTF-8 are no text
pub no_text : (bytes : List ℕ) → ¬ (IsUtf8 bytes) → None ≡ text_in bytes
no_text bytes not_utf8 = of (is_utf8 bytes) refl
  where
    of : (test : Bool) → is_utf8 bytes ≡ test → None ≡ text_in bytes
    of true passes = absurd (not_utf8 (IsUtf8-from_is_utf8 bytes passes))
    of false fails = rw fails refl

-- bytes that are UTF-8 are a text
pub is_text : (bytes text : List ℕ) → IsUtf8 bytes → text ≡ bytes → Some text ≡ text_in bytes
is_text bytes text utf8 same = rw (is_utf8-from_IsUtf8 bytes utf8) (ap Some same)

-- the first position is no later than the end
pub place_within : (p : ℕ → Bool) (bytes : List ℕ) → position_or_len p bytes ≤ length bytes
place_within p bytes = prefix_len-le-length (λ b. not (p b)) bytes

-- the result of a search, or the length if there is none, is the position of the first byte that passes
pub placed : (p : ℕ → Bool) (bytes : List ℕ) (found : Option ℕ)
    → found ≡ (if ltb (position_or_len p bytes) (length bytes) then Some (position_or_len p bytes) else None)
    → unwrap_or found (length bytes) ≡ position_or_len p bytes
placed p bytes found is = rw is (of (ltb (position_or_len p bytes) (length bytes)) refl)
  where
    of : (test : Bool) → ltb (position_or_len p bytes) (length bytes) ≡ test
        → unwrap_or (if test then Some (position_or_len p bytes) else None) (length bytes)
        ≡ position_or_len p bytes
    of true below = refl
    of false past =
        omega (arith, place_within p bytes, ltb-false (position_or_len p bytes) (length bytes) past)
