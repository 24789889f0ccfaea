-- The range of a refusal of a text: it begins and ends at character boundaries.
use Rattle.std.proofs.Common.{rules, ◌≡◌, ℕ, ◌+◌, ◌<◌, Option, Some, None, IfSome, Result, Ok, Err, IfErr, List, [], ◌∷◌, ◌++◌, length, refl, sym, ap, ◌∙◌, subst, inl, inr, append_assoc, append-nil, length-append, encode_utf8, arith}
use Rattle.std.proofs.lemmas.Bool.{and_parts}
use Rattle.std.proofs.lemmas.Str.{IsUtf8-append, IsUtf8-nil, IsUtf8-encode, IsUtf8-past_char, IsCharBoundary-at_seam, IsCharBoundary-start}
use Rattle.std.specs.Str.{IsUtf8, IsCharBoundary}
use Rattle.std.specs.declared.ops.Range.{Range}
use Rattle.subst_error.specs.ErrorFault.{parse_fault}
use Rattle.subst_error.specs.Fault.{Fault}
use Rattle.subst_error.specs.Range.{source_len, range_at, range_of, IsRangeIn}
use Rattle.subst_error.specs.declared.CharOrByte.{CharOrByte}
use Rattle.subst_error.specs.declared.CharOrByte.TheVariants.{Char, Byte}
use Rattle.subst_error.specs.declared.ParseError.{ParseError}
use Rattle.subst_language.specs.Language.Bytes.{dollar, colon, question_mark, backslash, opening_brace, closing_brace}
use Rattle.subst_language.specs.Language.Name.{IsName}
use Rattle.subst_language.specs.Language.Character.{BeginsWithChar, IsFrontCharacter}
use Rattle.subst_language.specs.Language.Tree.{Item, Plain, Escaped, Short, Braced, Optional, Default, Tree, Empty, Then, item_text, text}
use Rattle.subst_language.specs.Language.WellFormed.{IsItem, IsWellFormed}
use Rattle.subst_language.specs.Language.LookUp.{LookUp}
use Rattle.subst_language.specs.Language.Sentence.{Spells}
use Rattle.subst_language.specs.Language.Value.{value}
use Rattle.subst_language.specs.Language.BadItem.{IsBad, HasFault}
use Rattle.subst_language.specs.Language.BadItem.IsBad.{escape_at_end, escape, dollar_at_end, dollar_alone, brace_at_end, brace_alone, name_at_end, name_alone, optional_at_end, optional_alone, unclosed, inside}
use Rattle.subst_language.specs.Language.BadItem.HasFault.{fault_after}
use Rattle.subst_language.specs.Language.Answer.{Answers, Refuses, IsMissing}
use Rattle.subst_language.specs.Calls.Outcome.{OnFault}
use Rattle.std.specs.List.{AllByRecursion}
use Rattle.subst_language.specs.Language.Variables.{name_range, item_variables, variables_of}
use Rattle.subst_language.proofs.Language.ListLemmas.{each_append, each_weaker}
use Rattle.subst_language.proofs.Language.NameLemmas.{name_is_utf8}
use Rattle.subst_language.proofs.Language.MissingLemmas.{first_among}
use Rattle.subst_language.proofs.Language.Utf8Lemmas.{cut_at, after_ascii, after_name, in_braces, ascii_alone}

-- The text s is at position p. The range is in it, and the text of the range and the text after it are UTF-8.
record IsPlaced (p : ℕ) (s : List ℕ) (range : Range ℕ) : Type 0 where
  before : List ℕ
  within : List ℕ
  after : List ℕ
  parts : s ≡ before ++ (within ++ after)
  starts : range.start ≡ p + length before
  ends : range.end ≡ range.start + length within
  within_text : IsUtf8 within
  after_text : IsUtf8 after

-- a range of a text, by the three parts of the text
placed : (p : ℕ) (x y z : List ℕ) (start len : ℕ) → start ≡ p + length x → len ≡ length y → IsUtf8 y
    → IsUtf8 z → IsPlaced p (x ++ (y ++ z)) (range_at start len)
placed p x y z start len starts long here after = search rules

-- a range of a text is one of a text around it
placed_inside : {range : Range ℕ} (p q : ℕ) (u s v : List ℕ) → q ≡ p + length u → IsUtf8 v
    → IsPlaced q s range → IsPlaced p (u ++ (s ++ v)) range
placed_inside p q u s v at after_text is = record {
  before = u ++ is.before;
  within = is.within;
  after = is.after ++ v;
  parts =
      ap (λ w. u ++ (w ++ v)) is.parts
      ∙ simp append_assoc;
  starts = omega (arith, is.starts, at, length-append u is.before);
  ends = is.ends;
  within_text = is.within_text;
  after_text = IsUtf8-append is.after v is.after_text after_text;
}

-- a range of a text in UTF-8 begins and ends at a character boundary
placed_in : (s : List ℕ) (range : Range ℕ) → IsPlaced 0 s range → IsRangeIn s range
placed_in s range is =
    let first : length is.before ≡ range.start = omega (arith, is.starts) in
    let last : length (is.before ++ is.within) ≡ range.end =
    omega (arith, is.starts, is.ends, length-append is.before is.within) in
    let rest = IsUtf8-append is.within is.after is.within_text is.after_text in
    let start = IsCharBoundary-at_seam s is.before (is.within ++ is.after) is.parts rest in
    let cut : s ≡ (is.before ++ is.within) ++ is.after =
    is.parts ∙ sym (append_assoc is.before is.within is.after) in
    let end = IsCharBoundary-at_seam s (is.before ++ is.within) is.after cut is.after_text in
    (subst (IsCharBoundary s) first start, subst (IsCharBoundary s) last end)

-- UTF-8 that isn't empty begins with a character
pub begins_with_some : (b : ℕ) (x : List ℕ) → IsUtf8 (b ∷ x) → (c : ℕ) × BeginsWithChar (b ∷ x) c
begins_with_some b x ([], (scalars, e)) = absurd cc
begins_with_some b x (c ∷ cs, (scalars, e)) = (c, ((and_parts _ _ scalars).0, (_, sym e)))

-- a backslash alone is UTF-8
backslash_text : IsUtf8 (backslash ∷ [])
backslash_text = ascii_alone backslash (omega arith)

-- a dollar alone is UTF-8
dollar_text : IsUtf8 (dollar ∷ [])
dollar_text = ascii_alone dollar (omega arith)

-- an opening brace alone is UTF-8
opening_text : IsUtf8 (opening_brace ∷ [])
opening_text = ascii_alone opening_brace (omega arith)

-- the rest after the first character of UTF-8 is UTF-8
after_front : (b c : ℕ) (x rest : List ℕ) → IsUtf8 (b ∷ x) → b ∷ x ≡ encode_utf8 c ++ rest → IsUtf8 rest
after_front b c x rest is begins = IsUtf8-past_char (b ∷ x) rest c is begins

-- the range of the character after the bytes u
front_placed : (p start : ℕ) (u : List ℕ) (b : ℕ) (x : List ℕ) (c : CharOrByte) → start ≡ p + length u
    → IsUtf8 (b ∷ x) → IsFrontCharacter (b ∷ x) c → IsPlaced p (u ++ (b ∷ x)) (range_at start (source_len c))
front_placed p start u b x (Char c) at is (scalar, (rest, e)) =
    subst (λ w. IsPlaced p (u ++ w) (range_at start (length (encode_utf8 c)))) (sym e)
    (placed p u (encode_utf8 c) rest start (length (encode_utf8 c)) at refl (IsUtf8-encode c scalar)
    (after_front b c x rest is e))
front_placed p start u b x (Byte a) at is (none, (rest, e)) =
    let some = begins_with_some b x is in absurd (none some.0 some.1)

-- the range of an escape with its character
escape_placed : (p b : ℕ) (x : List ℕ) (c : CharOrByte) → IsUtf8 (b ∷ x) → IsFrontCharacter (b ∷ x) c
    → IsPlaced p (backslash ∷ b ∷ x) (range_at p (1 + source_len c))
escape_placed p b x (Char c) is (scalar, (rest, e)) =
    let here = IsUtf8-append (backslash ∷ []) (encode_utf8 c) backslash_text (IsUtf8-encode c scalar) in
    subst (λ w. IsPlaced p (backslash ∷ w) (range_at p (1 + length (encode_utf8 c)))) (sym e)
    (placed p [] (backslash ∷ encode_utf8 c) rest p (1 + length (encode_utf8 c)) (omega arith) (omega arith)
    here (after_front b c x rest is e))
escape_placed p b x (Byte a) is (none, (rest, e)) =
    let some = begins_with_some b x is in absurd (none some.0 some.1)

-- the range of an opening brace
brace_placed : (p : ℕ) (w : List ℕ) → IsUtf8 (dollar ∷ opening_brace ∷ w)
    → IsPlaced p (dollar ∷ opening_brace ∷ w) (range_at (p + 1) 1)
brace_placed p w is =
    let braced = after_ascii (opening_brace ∷ w) dollar (omega arith) is in
    placed p (dollar ∷ []) (opening_brace ∷ []) w (p + 1) 1 (omega arith) refl opening_text
    (after_ascii w opening_brace (omega arith) braced)

-- the rest after `${` and a name is UTF-8
pub after_braced_name : (n x : List ℕ) → IsName n → IsUtf8 (dollar ∷ opening_brace ∷ (n ++ x)) → IsUtf8 x
after_braced_name n x named is =
    let braced = after_ascii (opening_brace ∷ (n ++ x)) dollar (omega arith) is in
    after_name n x named (after_ascii (n ++ x) opening_brace (omega arith) braced)

-- a range of the default is one of the placeholder
default_placed : {range : Range ℕ} (p q : ℕ) (u n w v : List ℕ) → q ≡ p + length u → IsUtf8 v
    → IsPlaced (q + 3 + length n) w range
    → IsPlaced p (u ++ (dollar ∷ opening_brace ∷ (n ++ (colon ∷ (w ++ closing_brace ∷ v))))) range
default_placed {range} p q u n w v at after is =
    let head = dollar ∷ opening_brace ∷ (n ++ colon ∷ []) in
    let tail = closing_brace ∷ v in
    let closed = IsUtf8-append (closing_brace ∷ []) v (ascii_alone closing_brace (omega arith)) after in
    let long : q + 3 + length n ≡ p + length (u ++ head) =
    omega (arith, length-append u head, length-append n (colon ∷ [])) in
    let same : (u ++ head) ++ (w ++ tail) ≡ u ++ (dollar ∷ opening_brace ∷ (n ++ (colon ∷ (w ++ tail)))) =
    append_assoc u head (w ++ tail)
    ∙ ap (λ (y : List ℕ). u ++ (dollar ∷ opening_brace ∷ y)) (append_assoc n (colon ∷ []) (w ++ tail)) in
    subst (λ (s : List ℕ). IsPlaced p s range) same
    (placed_inside p (q + 3 + length n) (u ++ head) w tail long closed is)

-- a bad item begins with an ASCII byte
bad_begins : {p : ℕ} {r : List ℕ} {f : Fault} → IsBad p r f → (b : ℕ) × (x : List ℕ) × (b < 128) × (r ≡ b ∷ x)
bad_begins escape_at_end = (backslash, _, omega arith, refl)
bad_begins (escape n h) = (backslash, _, omega arith, refl)
bad_begins _ = (dollar, _, omega arith, refl)

-- a bad item that is after other bytes, in UTF-8, is UTF-8
pub bad_is_text : {p : ℕ} {r : List ℕ} {f : Fault} (x : List ℕ) → IsBad p r f → IsUtf8 (x ++ r) → IsUtf8 r
bad_is_text {r = r} x bad is = of (bad_begins bad)
  where
    of : (b : ℕ) × (y : List ℕ) × (b < 128) × (r ≡ b ∷ y) → IsUtf8 r
    of (b, y, ascii, e) =
        let (before, after) = cut_at x y b ascii (subst (λ w. IsUtf8 (x ++ w)) e is) in
        subst IsUtf8 (sym e) (IsUtf8-append (b ∷ []) y (ascii_alone b ascii) after)

mutual
  -- the range of a bad item in UTF-8
  bad_placed : {p : ℕ} {r : List ℕ} {f : Fault} → IsBad p r f → IsUtf8 r → IsPlaced p r (range_of (Some f))
  bad_placed {p = p} escape_at_end is =
      placed p [] (backslash ∷ []) [] p 1 (omega arith) refl is IsUtf8-nil
  bad_placed {p = p} (escape {b = b} {x = x} {c = c} special front) is =
      escape_placed p b x c (after_ascii (b ∷ x) backslash (omega arith) is) front
  bad_placed {p = p} dollar_at_end is = placed p [] (dollar ∷ []) [] p 1 (omega arith) refl is IsUtf8-nil
  bad_placed {p = p} (dollar_alone {b = b} {x = x} brace name) is =
      placed p [] (dollar ∷ []) (b ∷ x) p 1 (omega arith) refl dollar_text
      (after_ascii (b ∷ x) dollar (omega arith) is)
  bad_placed {p = p} brace_at_end is =
      placed p [] (dollar ∷ opening_brace ∷ []) [] p 2 (omega arith) refl is IsUtf8-nil
  bad_placed {p = p} (brace_alone {b = b} {x = x} name) is =
      let here = IsUtf8-append (dollar ∷ []) (opening_brace ∷ []) dollar_text opening_text in
      let braced = after_ascii (opening_brace ∷ b ∷ x) dollar (omega arith) is in
      placed p [] (dollar ∷ opening_brace ∷ []) (b ∷ x) p 2 (omega arith) refl here
      (after_ascii (b ∷ x) opening_brace (omega arith) braced)
  bad_placed {p = p} (name_at_end n named) is = brace_placed p n is
  bad_placed {p = p} (name_alone {b = b} {c = c} n x named name closing separator mark front) is =
      front_placed p (p + 2 + length n) (dollar ∷ opening_brace ∷ n) b x c (omega arith)
      (after_braced_name n (b ∷ x) named is) front
  bad_placed {p = p} (optional_at_end n named) is = brace_placed p (n ++ question_mark ∷ []) is
  bad_placed {p = p} (optional_alone {b = b} {c = c} n x named closing front) is =
      let u = dollar ∷ opening_brace ∷ (n ++ question_mark ∷ []) in
      let marked = after_braced_name n (question_mark ∷ b ∷ x) named is in
      let same : u ++ (b ∷ x) ≡ dollar ∷ opening_brace ∷ (n ++ (question_mark ∷ b ∷ x)) =
      ap (λ (y : List ℕ). dollar ∷ opening_brace ∷ y) (append_assoc n (question_mark ∷ []) (b ∷ x)) in
      subst (λ (s : List ℕ). IsPlaced p s (range_at (p + 3 + length n) (source_len c))) same
      (front_placed p (p + 3 + length n) u b x c (omega (arith, length-append n (question_mark ∷ [])))
      (after_ascii (b ∷ x) question_mark (omega arith) marked) front)
  bad_placed {p = p} (unclosed n w named none) is = brace_placed p (n ++ (colon ∷ w)) is
  bad_placed {p = p} (inside n w v named balanced fault) is =
      let separated = after_braced_name n (colon ∷ (w ++ closing_brace ∷ v)) named is in
      let closed = after_ascii (w ++ closing_brace ∷ v) colon (omega arith) separated in
      let (here, after) = cut_at w v closing_brace (omega arith) closed in
      default_placed p p [] n w v (omega arith) after (fault_placed fault here)

  -- the range of a fault of UTF-8
  fault_placed : {p : ℕ} {s : List ℕ} {f : Fault} → HasFault p s f → IsUtf8 s
      → IsPlaced p s (range_of (Some f))
  fault_placed {p = p} {f = f} (fault_after {r = r} t formed bad) is =
      let of_item = bad_placed bad (bad_is_text (text t) bad is) in
      subst (λ (w : List ℕ). IsPlaced p (text t ++ w) (range_of (Some f))) (append-nil r)
      (placed_inside p (p + length (text t)) (text t) r [] refl IsUtf8-nil of_item)

-- the range of the name of a placeholder in braces, after the bytes u, and before the bytes w
braced_placed : (p q position : ℕ) (u n x w : List ℕ) → q ≡ p + length u → position ≡ q + 2 → IsName n
    → IsUtf8 (u ++ (dollar ∷ opening_brace ∷ ((n ++ x) ++ w)))
    → IsPlaced p (u ++ (dollar ∷ opening_brace ∷ ((n ++ x) ++ w))) (range_at position (length n))
braced_placed p q position u n x w at starts named is =
    let head = dollar ∷ opening_brace ∷ [] in
    let (before, after) = in_braces u n x w named is in
    let parts : (u ++ head) ++ (n ++ (x ++ w)) ≡ u ++ (head ++ ((n ++ x) ++ w)) =
    append_assoc u head (n ++ (x ++ w))
    ∙ ap (λ (y : List ℕ). u ++ (head ++ y)) (sym (append_assoc n x w)) in
    subst (λ (s : List ℕ). IsPlaced p s (range_at position (length n))) parts
    (placed p (u ++ head) n (x ++ w) position (length n) (omega (arith, at, starts, length-append u head))
    refl (name_is_utf8 n named) after)

mutual
  -- The ranges of the names of an item's variables. The item is at position q, after the bytes u, which are
  -- at position p, and before the bytes w.
  item_placed : (item : Item) (next : Tree) (p q : ℕ) (u w : List ℕ) → q ≡ p + length u → IsItem item next
      → IsUtf8 (u ++ (item_text item ++ w))
      → AllByRecursion (λ v. IsPlaced p (u ++ (item_text item ++ w)) (name_range v)) (item_variables q item)
  item_placed (Plain b) next p q u w at fits is = tt
  item_placed (Escaped b) next p q u w at fits is = tt
  item_placed (Short n) next p q u w at fits is =
      let (before, after) = cut_at u (n ++ w) dollar (omega arith) is in
      let head = dollar ∷ [] in
      let here =
      subst (λ (s : List ℕ). IsPlaced p s (range_at (q + 1) (length n))) (append_assoc u head (n ++ w))
      (placed p (u ++ head) n w (q + 1) (length n) (omega (arith, at, length-append u head)) refl
      (name_is_utf8 n fits.0) (after_name n w fits.0 after)) in
      (here, tt)
  item_placed (Braced n) next p q u w at fits is =
      (braced_placed p q (q + 2) u n (closing_brace ∷ []) w at refl fits is, tt)
  item_placed (Optional n) next p q u w at fits is =
      (braced_placed p q (q + 2) u n (question_mark ∷ closing_brace ∷ []) w at refl fits is, tt)
  item_placed (Default n t) next p q u w at fits is =
      let (before, separated) = in_braces u n (colon ∷ text t ++ closing_brace ∷ []) w fits.0 is in
      let default = after_ascii ((text t ++ closing_brace ∷ []) ++ w) colon (omega arith) separated in
      let closing = subst IsUtf8 (append_assoc (text t) (closing_brace ∷ []) w) default in
      let (default_text, after) = cut_at (text t) w closing_brace (omega arith) closing in
      let at_default = q + 3 + length n in
      let of_default = tree_placed t at_default at_default [] (omega arith) fits.1 default_text in
      let parts : n ++ (colon ∷ (text t ++ closing_brace ∷ w))
      ≡ (n ++ (colon ∷ text t ++ closing_brace ∷ [])) ++ w =
      simp append_assoc in
      let here = braced_placed p q (q + 2) u n (colon ∷ text t ++ closing_brace ∷ []) w at refl fits.0 is in (
        here,
        each_weaker _ _
            (λ v in_default.
            subst (λ (y : List ℕ). IsPlaced p (u ++ (dollar ∷ opening_brace ∷ y)) (name_range v)) parts
            (default_placed p q u n (text t) w at after in_default))
            (variables_of at_default t) of_default,
      )

  -- the ranges of the names of a tree's variables, if the tree's text is after the bytes u
  tree_placed : (t : Tree) (p q : ℕ) (u : List ℕ) → q ≡ p + length u → IsWellFormed t → IsUtf8 (u ++ text t)
      → AllByRecursion (λ v. IsPlaced p (u ++ text t) (name_range v)) (variables_of q t)
  tree_placed Empty p q u at fits is = tt
  tree_placed (Then item rest) p q u at fits is =
      let next = q + length (item_text item) in
      let further : u ++ (item_text item ++ text rest) ≡ (u ++ item_text item) ++ text rest =
      sym (append_assoc u (item_text item) (text rest)) in
      let there = tree_placed rest p next (u ++ item_text item)
      (omega (arith, at, length-append u (item_text item))) fits.1 (subst IsUtf8 further is) in
      each_append _ (item_variables q item) (variables_of next rest)
      (item_placed item rest p q u (text rest) at fits.0 is)
      (subst (λ (s : List ℕ). AllByRecursion (λ v. IsPlaced p s (name_range v)) (variables_of next rest))
      (sym further) there)

-- each variable of a text has the range of its name in the text
pub variables_in_text : (s : List ℕ) (t : Tree) → IsUtf8 s → Spells t s
    → AllByRecursion (λ v. IsRangeIn s (name_range v)) (variables_of 0 t)
variables_in_text s t is spells =
    each_weaker _ _ (λ v. placed_in s (name_range v)) (variables_of 0 t)
    (subst (λ (w : List ℕ). AllByRecursion (λ v. IsPlaced 0 w (name_range v)) (variables_of 0 t))
    (sym spells.spelled) (tree_placed t 0 0 [] (omega arith) spells.well_formed
    (subst IsUtf8 spells.spelled is)))

-- each refusal of a text has a range whose ends are character boundaries of the text
pub refusal_in_text : (s : List ℕ) (look : LookUp) (f : Fault) → IsUtf8 s → Answers s look (Refuses f)
    → IsRangeIn s (range_of (Some f))
refusal_in_text s look f is (inl fault) = placed_in s (range_of (Some f)) (fault_placed fault is)
refusal_in_text s look f is (inr (t, spells, (position, name, missing, same))) =
    rw same (first_among (λ v. IsRangeIn s (name_range v)) 0 position t look name missing
    (variables_in_text s t is spells))

-- the range of an error that states a refusal of a text is in the text; for out of memory it is empty, at the
-- start
pub error_in_text : (s : List ℕ) (look : LookUp) (o : Option Fault) → IsUtf8 s
    → IfSome o (λ f. Answers s look (Refuses f)) → IsRangeIn s (range_of o)
error_in_text s look None is h = let start = IsCharBoundary-start s is in (start, start)
error_in_text s look (Some f) is h = refusal_in_text s look f is h

-- an error of parsing a text has its range in the text
pub parse_result_in_text : {T : Type 0} (s : List ℕ) (r : Result T ParseError) → IsUtf8 s
    → OnFault parse_fault r (HasFault 0 s) → IfErr r (λ e. IsRangeIn s (range_of (parse_fault e)))
parse_result_in_text s (Ok x) is h = tt
parse_result_in_text s (Err e) is h = of (parse_fault e) h
  where
    of : (o : Option Fault) → IfSome o (HasFault 0 s) → IsRangeIn s (range_of o)
    of None h = error_in_text s (λ name. None) None is tt
    of (Some f) h = error_in_text s (λ name. None) (Some f) is (inl h)

-- an error of expanding a text has its range in the text
pub expand_error_in_text : (s : List ℕ) (t : Tree) (look : LookUp) (o : Option Fault) → IsUtf8 s → Spells t s
    → IfSome o (IsMissing (value 0 t look)) → IsRangeIn s (range_of o)
expand_error_in_text s t look None is spells h = error_in_text s look None is tt
expand_error_in_text s t look (Some f) is spells h = error_in_text s look (Some f) is (inr (t, spells, h))
