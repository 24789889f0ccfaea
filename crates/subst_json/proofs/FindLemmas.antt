-- The reader finds the value at a path by the path's text.
use Rattle.std.proofs.Common.{◌≡◌, ◌≢◌, ℕ, zero, suc, ◌<◌, ◌^◌, Bool, true, false, not, ◌||◌, ◌==◌, List, [], ◌∷◌, ◌++◌, length, get_or, flat_map, decimal, Some, refl, sym, ap, ◌∙◌, arith, append-nil, inl, inr, ne_eqb, eq-eqb, lt-ltb}
use Rattle.std.proofs.lemmas.Bool.{cases_eq}
use Rattle.std.proofs.lemmas.Fmt.{decimal_is_IsNumeral, decimal_nonempty, first_decimal}
use Rattle.std.proofs.lemmas.Str.Parse.{digit_from_value}
use Rattle.std.proofs.lemmas.Float.Parse.{scan_numeral-text_of}
use Rattle.std.specs.Float.Numeral.{scan_numeral, Parts, IsWellFormed, numeral_digits}
use Rattle.std.specs.Fmt.{digits}
use Rattle.std.specs.Str.Parse.{AllDigits}
use Rattle.serde_json.specs.Data.{Data, null, boolean, number, string, array, object}
use Rattle.serde_json.specs.Find.{get, at, unescape, index_of, step, walk, pointer}
use Rattle.serde_json.proofs.Paths.{Lacks, walk_part, walk_last}
use Rattle.subst_document.specs.Paths.{PathStep, Key, Index}
use Rattle.subst_json.specs.Paths.{Leads}
use Rattle.subst_json.specs.Pointer.{escaped_byte, HasUsizeIndices, pointer_text}
use Rattle.subst_json.proofs.PointerLemmas.{escaped_byte-other}

-- ---- keys

unescape-cons : (b : ℕ) (rest : List ℕ) → b ≢ 126 → unescape (b ∷ rest) ≡ b ∷ unescape rest
unfolding unescape
unescape-cons b [] other = refl
unescape-cons b (c ∷ rest) other = rw (ne_eqb b 126 other)

unescape-escaped : (key : List ℕ) → unescape (flat_map escaped_byte key) ≡ key
unfolding unescape
unescape-escaped [] = refl
unescape-escaped (b ∷ key) = elim (cases_eq b 126) [
  | inl tilde ↦ rw tilde (ap (λ l. 126 ∷ l) (unescape-escaped key))
  | inr other ↦ elim (cases_eq b 47) [
    | inl slash ↦ rw slash (ap (λ l. 47 ∷ l) (unescape-escaped key))
    | inr plain ↦ rw (escaped_byte-other b other plain)
        (unescape-cons b (flat_map escaped_byte key) other ∙ ap (λ l. b ∷ l) (unescape-escaped key))
  ]
]

lacks-cons : (x : ℕ) (xs : List ℕ) → x ≢ 47 → Lacks 47 xs → Lacks 47 (x ∷ xs)
lacks-cons x xs other rest zero within = other
lacks-cons x xs other rest (suc i) within = rest i (omega arith)

-- the text of a byte has no slash
byte_lacks_slash : (b : ℕ) (rest : List ℕ) → Lacks 47 rest → Lacks 47 (escaped_byte b ++ rest)
byte_lacks_slash b rest lacks = elim (cases_eq b 126) [
  | inl tilde ↦ rw tilde (after_tilde 48 (λ e. omega arith))
  | inr other ↦ elim (cases_eq b 47) [
    | inl slash ↦ rw slash (after_tilde 49 (λ e. omega arith))
    | inr plain ↦ rw (escaped_byte-other b other plain) (lacks-cons b rest plain lacks)
  ]
]
  where
    after_tilde : (digit : ℕ) → digit ≢ 47 → Lacks 47 (126 ∷ digit ∷ rest)
    after_tilde digit apart =
        lacks-cons 126 (digit ∷ rest) (λ e. omega arith) (lacks-cons digit rest apart lacks)

escaped_lacks_slash : (key : List ℕ) → Lacks 47 (flat_map escaped_byte key)
escaped_lacks_slash [] = λ i within. absurd (omega arith)
escaped_lacks_slash (b ∷ key) = byte_lacks_slash b (flat_map escaped_byte key) (escaped_lacks_slash key)

step_to_key : (key : List ℕ) (d e : Data) → get key d ≡ Some e → step (flat_map escaped_byte key) d ≡ Some e
step_to_key key null e found = found
step_to_key key (boolean b) e found = found
step_to_key key (number n) e found = found
step_to_key key (string s) e found = found
step_to_key key (array ds) e found = cc
step_to_key key (object ms) e found = rw (unescape-escaped key) found

-- ---- indices

digits_lack_slash : (ds : List ℕ) → AllDigits 10 ds → Lacks 47 ds
digits_lack_slash [] all = λ i within. absurd (omega arith)
digits_lack_slash (d ∷ ds) all = lacks-cons d ds (λ e. omega (arith, digit_from_value d all.0))
    (digits_lack_slash ds all.1)

-- the parts of a numeral with these digits
abbrev parts : List ℕ → Parts
parts ds = record {
  whole = ds;
  point = false;
  fraction = [];
  exponent_negative = false;
  exponent = [];
  len = length (ds ++ []);
}

scan_numeral-decimal : (n : ℕ) → n < 2 ^ 64 → scan_numeral (decimal n) ≡ parts (decimal n)
scan_numeral-decimal n small =
    let formed : IsWellFormed (parts (decimal n)) = record {
      whole_digits = (decimal_is_IsNumeral n small).0.1;
      fraction_digits = tt;
      exponent_digits = tt;
      no_point = λ _. refl;
      no_exponent = λ _. refl;
      len_is = refl;
    } in
    ap scan_numeral (sym (append-nil (decimal n))) ∙ scan_numeral-text_of (parts (decimal n)) formed

either_not : (a b : Bool) → b ≡ false → (a || not b) ≡ true
either_not true b none = refl
either_not false b none = rw none

no_leading_zero : (n : ℕ) → n < 2 ^ 64
    → (length (decimal n) == 1 || not (get_or (decimal n) 0 0 == 48)) ≡ true
unfolding digits
no_leading_zero n small = elim (cases_eq n 0) [
  | inl none ↦ rw none refl
  | inr some ↦
      let first = first_decimal n (omega arith) small in
      either_not (length (decimal n) == 1) _ (ne_eqb (get_or (decimal n) 0 0) 48 (λ e. omega arith))
]

index_of-decimal : (n : ℕ) → n < 2 ^ 64 → index_of (decimal n) ≡ Some n
unfolding index_of
index_of-decimal n small =
    let value : numeral_digits (parts (decimal n)) ≡ n = rw append-nil (decimal_is_IsNumeral n small).1 in
    let some = lt-ltb _ _ (decimal_nonempty n small) in
    let all : (length (decimal n ++ []) == length (decimal n)) ≡ true = rw append-nil (eq-eqb _ _ refl) in
    rw (scan_numeral-decimal n small, some, all, value, lt-ltb _ _ small, no_leading_zero n small) refl

step_to_index : (i : ℕ) (d e : Data) → i < 2 ^ 64 → at i d ≡ Some e → step (decimal i) d ≡ Some e
step_to_index i null e small found = found
step_to_index i (boolean b) e small found = found
step_to_index i (number n) e small found = found
step_to_index i (string s) e small found = found
step_to_index i (array ds) e small found = rw (index_of-decimal i small) found
step_to_index i (object ms) e small found = cc

-- ---- paths

-- after a slash and the text of a step, the reader continues from the value at that step
pointer-step : (xs : List ℕ) (path : List PathStep) (d e : Data) → Lacks 47 xs → step xs d ≡ Some e
    → pointer (47 ∷ (xs ++ pointer_text path)) d ≡ pointer (pointer_text path) e
pointer-step xs [] d e lacks found = ap (λ l. walk [] l d) (append-nil xs) ∙ walk_last xs d lacks ∙ found
pointer-step xs (Key key ∷ path) d e lacks found = walk_part xs _ d lacks ∙ rw found
pointer-step xs (Index i ∷ path) d e lacks found = walk_part xs _ d lacks ∙ rw found

pub pointer-leads : (path : List PathStep) (d : Data) (s : List ℕ) → HasUsizeIndices path → Leads path d s
    → pointer (pointer_text path) d ≡ Some (string s)
pointer-leads [] d s small same = ap Some same
pointer-leads (Key key ∷ path) d s small (e, found, leads) =
    pointer-step (flat_map escaped_byte key) path d e (escaped_lacks_slash key) (step_to_key key d e found)
    ∙ pointer-leads path e s small leads
pointer-leads (Index i ∷ path) d s small (e, found, leads) =
    pointer-step (decimal i) path d e (digits_lack_slash (decimal i) (decimal_is_IsNumeral i small.0).0.1)
    (step_to_index i d e small.0 found)
    ∙ pointer-leads path e s small.1 leads
