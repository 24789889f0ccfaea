-- Lemmas on arguments: pairs NAME=VALUE, and names after a dollar.
use Rattle.std.proofs.Common.{◌≡◌, ◌≢◌, ◌<◌, ◌≤◌, ◌-◌, ◌++◌, ◌↔◌, ◌∙◌, ℕ, Bool, true, false, List, [], ◌∷◌, length, map, take, drop, Option, Some, None, IsTrue, arith, ap, refl, subst, sym}
use Rattle.std.proofs.Math.Seq.{drop-append_seam, take-append_seam}
use Rattle.std.proofs.lemmas.List.{length-append, length-map, take-append-drop, take_all}
use Rattle.std.proofs.lemmas.Simd.{map-map}
use Rattle.std.proofs.lemmas.Slice.Eq.{bytes_eq-Decides}
use Rattle.std.specs.Borrow.{Bor}
use Rattle.std.specs.List.{position_or_len}
use Rattle.std.specs.Prelude.{◌==◌, MatchOption, is_some, option_map, unwrap_or}
use Rattle.std.specs.Str.{bytes_eq}
use Rattle.clap.specs.Walk.{texts}
use Rattle.subst_filter_lib.proofs.ArgumentLemmas.{is_some_if_passes}
use Rattle.subst_filter_lib.specs.Arguments.{is_equals_sign, is_pair, name_in, value_in}
use Rattle.subst_language.specs.Language.Name.{IsName}
use Rattle.subst_expander.proofs.EntryLemmas.{spelled_by}
use Rattle.subst_options.specs.Arguments.{after_byte, before_byte, files_or_input, pair_in}
use Rattle.subst_expander.specs.Layers.{is_spelled}

-- an argument without `=` is no pair
pub no_pair : (argument : List ℕ) → position_or_len is_equals_sign argument ≡ length argument
    → pair_in argument ≡ None
no_pair argument none =
    let unpaired = is_some_if_passes {X = ℕ} (λ x. Unit {0}) (λ x. Unit {0}) is_equals_sign argument None none
    in rw (sym unpaired) refl

-- an argument whose name isn't a variable name is no pair
pub misspelled_pair : (argument name : List ℕ) (test : Bool) → name ≡ name_in argument
    → IsTrue test ↔ IsName name → test ≡ false → pair_in argument ≡ None
misspelled_pair argument name test same told is =
    let spelled_pair = subst (λ other. is_spelled other ≡ false) same (spelled_by test name told ∙ is) in
    of (is_pair argument) refl spelled_pair
  where
    of : (pair : Bool) → is_pair argument ≡ pair → is_spelled (name_in argument) ≡ false
        → pair_in argument ≡ None
    of true is_pair wrong = rw (is_pair, wrong) refl
    of false is_pair wrong = rw is_pair refl

-- an argument with `=` whose name is a variable name is a pair
pub spelled_pair : (argument name value : List ℕ) (test : Bool)
    → position_or_len is_equals_sign argument < length argument → name ≡ name_in argument
    → value ≡ value_in argument → IsTrue test ↔ IsName name → test ≡ true
    → pair_in argument ≡ Some (name, value)
spelled_pair argument name value test below same rest told is =
    let spelled_pair = subst (λ other. is_spelled other ≡ true) same (spelled_by test name told ∙ is) in
    let paired = is_some_if_passes {X = ℕ} (λ x. Unit {0}) (λ x. Unit {0}) is_equals_sign argument (Some 0)
    (below, tt, tt) in
    rw (sym paired, spelled_pair, same, rest) refl

-- a text that doesn't begin with a byte has no text after it
pub no_after : (byte : ℕ) (text : List ℕ) → ((rest : List ℕ) → text ≢ byte ∷ rest)
    → after_byte byte text ≡ None
no_after byte [] not_first = refl
no_after byte (b ∷ text) not_first = of (b == byte) refl
  where
    of : (test : Bool) → (b == byte) ≡ test → after_byte byte (b ∷ text) ≡ None
    of true same =
        let is : b ≡ byte = grind arith in
        absurd (not_first text (ap (λ first. first ∷ text) is))
    of false other = rw other refl

-- the text after its first byte
pub is_after : (byte : ℕ) (text rest : List ℕ) → text ≡ byte ∷ rest → after_byte byte text ≡ Some rest
is_after byte text rest same =
    let one : (byte == byte) ≡ true = grind arith in
    rw (same, one) refl

-- a text that doesn't end in a byte has no text before it
pub no_before : (byte : ℕ) (text : List ℕ) → ((front : List ℕ) → text ≢ front ++ (byte ∷ []))
    → before_byte byte text ≡ None
no_before byte text not_last = of (bytes_eq (drop (length text - 1) text) (byte ∷ [])) refl
  where
    of : (test : Bool) → bytes_eq (drop (length text - 1) text) (byte ∷ []) ≡ test
        → before_byte byte text ≡ None
    of true same =
        let end = (bytes_eq-Decides (drop (length text - 1) text) (byte ∷ [])).0 same in
        let whole = sym (take-append-drop (length text - 1) text)
        ∙ ap (λ back. take (length text - 1) text ++ back) end in
        absurd (not_last (take (length text - 1) text) whole)
    of false other = rw other refl

-- the text before its last byte
pub is_before : (byte : ℕ) (text front : List ℕ) → text ≡ front ++ (byte ∷ [])
    → before_byte byte text ≡ Some front
is_before byte text front same =
    let long = ap length same ∙ length-append front (byte ∷ []) in
    let at : length text - 1 ≡ length front = omega arith in
    let end = ap (drop (length front)) same ∙ drop-append_seam front (byte ∷ []) in
    let begins = ap (take (length front)) same ∙ take-append_seam front (byte ∷ []) in
    let is = (bytes_eq-Decides (drop (length front) text) (byte ∷ [])).1 end in
    rw (at, is, begins) refl

-- the text without a brace at its end, or another text if it doesn't end in a brace
pub without_brace : (text : Bor (List ℕ)) (opened : List ℕ) (found : Option (Bor (List ℕ)))
    → MatchOption found ((front : List ℕ) → opened ≢ front ++ (125 ∷ [])) (λ x. opened ≡ x.now ++ (125 ∷ []))
    → (unwrap_or found text).now ≡ unwrap_or (before_byte 125 opened) text.now
without_brace text opened None none = rw (no_before 125 opened none) refl
without_brace text opened (Some x) same = rw (is_before 125 opened x.now same) refl

-- pairs of all items of a loop are those of the arguments' texts
pub all_pairs : {P : Type 0} (pair_of : P → Option (List ℕ × List ℕ)) (arguments items : List (Bor (List ℕ)))
    (at : ℕ) (pairs : List P) (texts : List (List ℕ)) → items ≡ arguments → length items ≤ at
    → map pair_of pairs ≡ map (λ argument. pair_in argument.now) (take at items)
    → map (λ argument. argument.now) arguments ≡ texts → map pair_of pairs ≡ map pair_in texts
all_pairs pair_of arguments items at pairs texts same past are listed =
    are ∙ (ap (map (λ (argument : Bor (List ℕ)). pair_in argument.now)) (take_all at items past ∙ same)
    ∙ (sym (map-map pair_in (λ (argument : Bor (List ℕ)). argument.now) arguments) ∙ ap (map pair_in) listed))

-- there is one file to be expanded if at most one is named
pub one_file : (all files : List (Bor (List ℕ))) → texts all ≡ files_or_input (texts files)
    → length files ≤ 1 → length all ≡ 1
one_file all [] same few = sym (length-map all (λ file. file.now)) ∙ ap length same
one_file all (file ∷ []) same few = sym (length-map all (λ file. file.now)) ∙ ap length same
one_file all (file ∷ other ∷ files) same few = absurd (omega (arith, few))

-- the text of an option, or a default text
pub text_or : (found : Option (Bor (List ℕ))) (default text : Bor (List ℕ)) (value : Option (List ℕ))
    → text ≡ unwrap_or found default → option_map (λ t. t.now) found ≡ value
    → text.now ≡ unwrap_or value default.now
text_or None default text value is same =
    ap (λ (t : Bor (List ℕ)). t.now) is ∙ ap (λ v. unwrap_or v default.now) same
text_or (Some other) default text value is same =
    ap (λ (t : Bor (List ℕ)). t.now) is ∙ ap (λ v. unwrap_or v default.now) same

-- a text is there if its bytes are
pub is_some_text : (found : Option (Bor (List ℕ))) (value : Option (List ℕ))
    → option_map (λ t. t.now) found ≡ value → is_some found ≡ is_some value
is_some_text None value same = ap is_some same
is_some_text (Some text) value same = ap is_some same

-- an option without a value is none
pub none_if : (value : Option (List ℕ)) → is_some value ≡ false → value ≡ None
none_if None absent = refl
none_if (Some text) absent = absurd cc
