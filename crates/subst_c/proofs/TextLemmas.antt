-- The output of a source that is UTF-8, with values that are UTF-8, is UTF-8.
use Rattle.std.proofs.Common.{◌≡◌, ℕ, Bool, true, false, ◌&&◌, if◌then◌else◌, List, [], ◌∷◌, Option, Some, None, IfSome, MatchResult, Result, Ok, Err, find, is_ok, refl, subst, sym}
use Rattle.std.proofs.lemmas.Str.{IsUtf8-from_is_utf8, is_utf8-from_IsUtf8}
use Rattle.std.specs.Option.{option_map}
use Rattle.std.specs.Str.{IsUtf8, bytes_eq, is_utf8}
use Rattle.subst_language.specs.Language.LookUp.{LookUp, GivesTexts}
use Rattle.subst_language.specs.Language.Sentence.{ByTree}
use Rattle.subst_language.specs.Language.Value.{value, Bytes}
use Rattle.subst_c.specs.Pairs.{GivenBy, TextGivenBy, pair_value}
use Rattle.subst_c.specs.Text.{are_texts, have_texts}
use Rattle.subst_c.specs.declared.pairs.Pair.{Pair}

-- the law of texts, which `laws::texts_give_texts` states
abbrev pub TextsGiveTexts : Type 0
TextsGiveTexts = (s x : List ℕ) (p : ℕ) (look : LookUp) → IsUtf8 s → GivesTexts look
    → ByTree s (λ t. value p t look ≡ Bytes x → IsUtf8 x)

-- a test for UTF-8 by a result that is `Ok` exactly for UTF-8
pub tells_text : {A E : Type 0} (s : List ℕ) (P : A → Type 0) (r : Result A E)
    → MatchResult r (λ x. P x × IsUtf8 s) (λ _. ¬ (IsUtf8 s)) → is_ok r ≡ is_utf8 s
tells_text s P (Ok x) (p, is) = sym (is_utf8-from_IsUtf8 s is)
tells_text s P (Err e) none = of (is_utf8 s) refl
  where
    of : (b : Bool) → is_utf8 s ≡ b → false ≡ b
    of true is = absurd (none (IsUtf8-from_is_utf8 s is))
    of false is = refl

-- if two tests pass together, each of them passes
first_passes : (a b : Bool) → (a && b) ≡ true → a ≡ true
first_passes true b e = refl
first_passes false b e = absurd cc

second_passes : (a b : Bool) → (a && b) ≡ true → b ≡ true
second_passes true b e = e
second_passes false b e = absurd cc

-- the value that is found under a name is one of the values, so it is UTF-8
found_is_text : (pairs : List Pair) (name : List ℕ) → have_texts pairs ≡ true
    → IfSome (find (λ pair. bytes_eq name pair.name.now) pairs) (λ pair. is_utf8 pair.value.now ≡ true)
found_is_text [] name all = tt
found_is_text (pair ∷ pairs) name all =
    of (bytes_eq name pair.name.now) _ (first_passes (is_utf8 pair.value.now) _ all)
    (found_is_text pairs name (second_passes (is_utf8 pair.value.now) _ all))
  where
    of : (b : Bool) (later : Option Pair) → is_utf8 pair.value.now ≡ true
        → IfSome later (λ p. is_utf8 p.value.now ≡ true)
        → IfSome (if b then Some pair else later) (λ p. is_utf8 p.value.now ≡ true)
    of true later is rest = is
    of false later is rest = rest

-- the value that is found is UTF-8
value_is_text : (found : Option Pair) (x : List ℕ) → IfSome found (λ pair. is_utf8 pair.value.now ≡ true)
    → option_map (λ pair. pair.value.now) found ≡ Some x → IsUtf8 x
value_is_text (Some pair) x is e =
    let same : pair.value.now ≡ x = cc in
    subst (λ (s : List ℕ). IsUtf8 s) same (IsUtf8-from_is_utf8 pair.value.now is)
value_is_text None x is e = absurd cc

-- if all values of pairs are UTF-8, so is the value of each name
pub gives_texts : (pairs : List Pair) → have_texts pairs ≡ true → GivesTexts (pair_value pairs)
gives_texts pairs all name x found =
    value_is_text (find (λ pair. bytes_eq name pair.name.now) pairs) x (found_is_text pairs name all) found

-- if the source and all values are UTF-8, so are the source and the value of each name
pub source_is_text : (s : List ℕ) (pairs : List Pair) → are_texts s pairs ≡ true → IsUtf8 s
source_is_text s pairs are = IsUtf8-from_is_utf8 s (first_passes (is_utf8 s) _ are)

pub values_are_texts : (s : List ℕ) (pairs : List Pair) → are_texts s pairs ≡ true → GivesTexts (pair_value pairs)
values_are_texts s pairs are = gives_texts pairs (second_passes (is_utf8 s) _ are)

-- if the source is UTF-8, all are UTF-8 exactly if the values are
pub texts_of_a_text : (s : List ℕ) (pairs : List Pair) → IsUtf8 s → are_texts s pairs ≡ have_texts pairs
texts_of_a_text s pairs is = rw (is_utf8-from_IsUtf8 s is)

-- if the source isn't UTF-8, not all are
pub texts_of_no_text : (s : List ℕ) (pairs : List Pair) → ¬ (IsUtf8 s) → are_texts s pairs ≡ false
texts_of_no_text s pairs none = of (is_utf8 s) refl
  where
    of : (b : Bool) → is_utf8 s ≡ b → (b && have_texts pairs) ≡ false
    of true is = absurd (none (IsUtf8-from_is_utf8 s is))
    of false is = refl

-- the output of the source is UTF-8
pub gives_text : (law : TextsGiveTexts) (s : List ℕ) (pairs : List Pair) → are_texts s pairs ≡ true
    → (x : List ℕ) → GivenBy s pairs x → TextGivenBy s pairs x
gives_text law s pairs are x (t, spells, gives) = (
  law s x 0 (pair_value pairs) (source_is_text s pairs are) (values_are_texts s pairs are) t spells gives,
  (t, spells, gives),
)
