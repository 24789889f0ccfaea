-- The line and column at the end of a text that is cut.
use Rattle.std.proofs.Common.{◌≡◌, ℕ, zero, suc, ◌+◌, ◌-◌, ◌<◌, ◌≤◌, ◌==◌, Bool, true, false, not, cond, List, [], ◌∷◌, ◌++◌, length, take, drop, get_or, refl, sym, ap, subst, ◌∙◌, arith, nat_eq, reverse, length-append, length-drop, append-nil, add-zero, zero-add, min, slice_range, ◌^◌, chars}
use Rattle.std.proofs.lemmas.Bool.Decides.{nat_tests}
use Rattle.std.proofs.Math.Seq.{drop-append-add, drop-append_seam, get_or-append_seam, take-add, take-length, take-append_seam}
use Rattle.std.proofs.lemmas.List.{reverse-append, length-reverse, drop-append-le, get_or-drop, get_or-take, length-take, length-take-le}
use Rattle.std.proofs.lemmas.Str.{IsCharBoundary-after_ascii, IsCharBoundary-before_ascii, IsUtf8-nil, IsUtf8-take, IsUtf8-drop, chars-append, chars-nil, chars_past_char, encode_ascii}
use Rattle.std.specs.Str.{IsUtf8}
use Rattle.std.proofs.lemmas.List.Folds.{prefix_len-append}
use Rattle.std.specs.Bool.{MatchBool}
use Rattle.std.specs.List.{after_last, list_any, prefix_len, starts_with, suffix_len}
use Rattle.subst.specs.Line.{is_line_end}
use Rattle.subst.specs.Highlighting.{columns}
use Rattle.subst.specs.Position.{line_end_count, position_at}
use Rattle.unicode_width.specs.Width.{str_width}
use Rattle.subst_expander.specs.Positions.{is_cut, IsPositionAt}
use Rattle.subst_expander.proofs.WidthLemmas.{str_width-cut}

pub line_end_count-le : (s : List ℕ) → line_end_count s ≤ length s
line_end_count-le [] = omega arith
line_end_count-le (b ∷ s) = grind (arith, line_end_count-le s)

-- line ends add up, unless the text is cut before a line feed
pub line_end_count-append : (a b : List ℕ) → starts_with nat_eq b (10 ∷ []) ≡ false
    → line_end_count (a ++ b) ≡ line_end_count a + line_end_count b
line_end_count-append [] b no_feed = sym (zero-add (line_end_count b))
line_end_count-append (x ∷ []) b no_feed = rw no_feed (omega arith)
line_end_count-append (x ∷ y ∷ a) b no_feed = rw (line_end_count-append (y ∷ a) b no_feed) (omega arith)

-- no line ends are counted if no byte ends a line
pub line_end_count-none : (s : List ℕ) → (line_end_count s == 0) ≡ not (list_any is_line_end s)
line_end_count-none [] = refl
line_end_count-none (x ∷ []) = grind (arith, nat_tests)
line_end_count-none (x ∷ y ∷ s) = grind (arith, nat_tests, line_end_count-none (y ∷ s))

module _ (p : ℕ → Bool) where
  any_suffix : (xs : List ℕ) → MatchBool (list_any p xs)
      (suffix_len (λ x. not (p x)) xs < length xs) (suffix_len (λ x. not (p x)) xs ≡ length xs)
  any_suffix [] = refl
  any_suffix (x ∷ xs) =
      grind (
        arith,
        nat_tests,
        any_suffix xs,
        reverse-append (x ∷ []) xs,
        length-reverse xs,
        prefix_len-append (λ x. not (p x)) (reverse xs) (x ∷ []),
      )

  suffix_len-append : (a b : List ℕ) → suffix_len (λ x. not (p x)) (a ++ b)
      ≡ cond (suffix_len (λ x. not (p x)) b == length b) (length b + suffix_len (λ x. not (p x)) a)
      (suffix_len (λ x. not (p x)) b)
  suffix_len-append a b =
      ap (prefix_len (λ x. not (p x))) (reverse-append a b)
      ∙ prefix_len-append (λ x. not (p x)) (reverse b) (reverse a) ∙ rw (length-reverse b) refl

  pub after_last-none : (a b : List ℕ) → list_any p b ≡ false → after_last p (a ++ b) ≡ after_last p a ++ b
  after_last-none a b none =
      let whole = rw none at (any_suffix b) in
      let n = suffix_len (λ x. not (p x)) a in
      let len : suffix_len (λ x. not (p x)) (a ++ b) ≡ length b + n =
      grind (arith, nat_tests, suffix_len-append a b, whole) in
      let start : length (a ++ b) - suffix_len (λ x. not (p x)) (a ++ b) ≡ length a - n =
      omega (arith, len, length-append a b) in
      ap (λ k. drop k (a ++ b)) start ∙ drop-append-le (length a - n) a b (omega arith)

  pub after_last-some : (a b : List ℕ) → list_any p b ≡ true → after_last p (a ++ b) ≡ after_last p b
  after_last-some a b some =
      let part = rw some at (any_suffix b) in
      let n = suffix_len (λ x. not (p x)) b in
      let len : suffix_len (λ x. not (p x)) (a ++ b) ≡ n = grind (arith, nat_tests, suffix_len-append a b, part) in
      let start : length (a ++ b) - suffix_len (λ x. not (p x)) (a ++ b) ≡ length a + (length b - n) =
      omega (arith, len, part, length-append a b) in
      ap (λ k. drop k (a ++ b)) start ∙ drop-append-add a b (length b - n)

-- the last byte that ends a line, between the bytes before and after it
abbrev LastEnd : List ℕ → Type 0
LastEnd s = (front : List ℕ) × (b : ℕ) × (s ≡ front ++ b ∷ after_last is_line_end s) × (is_line_end b ≡ true)

last_end : (s : List ℕ) → list_any is_line_end s ≡ true → LastEnd s
last_end [] some = cc
last_end (x ∷ s) some = by (list_any is_line_end s) refl (last_end s)
  where
    by : (any : Bool) → list_any is_line_end s ≡ any → (list_any is_line_end s ≡ true → LastEnd s) → LastEnd (x ∷ s)
    by true e rest = let (front, b, is, ends) = rest e in (
      x ∷ front,
      b,
      ap (λ l. x ∷ l) (is ∙ ap (λ l. front ++ b ∷ l) (sym (after_last-some is_line_end (x ∷ []) s e))),
      ends,
    )
    by false e rest = let ends : is_line_end x ≡ true = grind (arith, e, some) in
        ([], x, ap (λ l. x ∷ l) (sym (after_last-none is_line_end (x ∷ []) s e ∙ rw ends refl)), ends)

-- a line of a text is a text
after_last-utf8 : (s : List ℕ) → IsUtf8 s → IsUtf8 (after_last is_line_end s)
after_last-utf8 s utf8 = by (list_any is_line_end s) refl
  where
    by : (any : Bool) → list_any is_line_end s ≡ any → IsUtf8 (after_last is_line_end s)
    by false e = subst IsUtf8 (sym (after_last-none is_line_end [] s e)) utf8
    by true e =
        let (front, b, is, ends) = last_end s e in
        let line = after_last is_line_end s in
        let at : get_or s (length front) 0 ≡ b =
        ap (λ l. get_or l (length front) 0) is ∙ get_or-append_seam front b line 0 in
        let ascii : b < 128 = grind (arith, nat_tests, ends) in
        let len : length s ≡ length front + suc (length line) = ap length is ∙ length-append front (b ∷ line) in
        subst IsUtf8 (ap (drop (length front + 1)) is ∙ drop-append-add front (b ∷ line) 1)
        (IsUtf8-drop s (length front + 1) utf8
        (IsCharBoundary-after_ascii s (length front) utf8 (omega arith) (omega (arith, at))))

-- `b` is a text that goes on after `a`, and is cut from it before a byte of `is_cut`
abbrev Continues : List ℕ → List ℕ → Type 0
Continues a b = 0 < length a → 0 < length b → is_cut (get_or b 0 0) ≡ true

pub columns-nil : columns [] ≡ 0
unfolding str_width
columns-nil = ap (λ cs. str_width false cs) chars-nil

columns-append : (a b : List ℕ) → IsUtf8 a → IsUtf8 b → Continues a b → columns (a ++ b) ≡ columns a + columns b
columns-append [] b a_utf8 b_utf8 cut = omega (arith, columns-nil)
columns-append (x ∷ a) [] a_utf8 b_utf8 cut = rw (append-nil (x ∷ a)) (omega (arith, columns-nil))
columns-append (x ∷ a) (c ∷ b) a_utf8 b_utf8 cut =
    let is = cut (omega arith) (omega arith) in
    let ascii : c < 128 = grind (arith, nat_tests, is) in
    let first : chars (c ∷ b) ≡ c ∷ chars b =
    chars_past_char (c ∷ b) b c b_utf8 (ap (λ l. l ++ b) (sym (encode_ascii c ascii))) in
    ap (str_width false) (chars-append (x ∷ a) (c ∷ b) a_utf8 ∙ ap (λ cs. chars (x ∷ a) ++ cs) first)
    ∙ str_width-cut (chars (x ∷ a)) (chars b) c is
    ∙ ap (λ cs. columns (x ∷ a) + str_width false cs) (sym first)

no_feed : (b : List ℕ) → (0 < length b → is_cut (get_or b 0 0) ≡ true) → starts_with nat_eq b (10 ∷ []) ≡ false
no_feed [] cut = refl
no_feed (c ∷ b) cut = let is = cut (omega arith) in grind (arith, nat_tests, is)

-- the line ends of a text that is cut
counts-append : (a b : List ℕ) → Continues a b → line_end_count (a ++ b) ≡ line_end_count a + line_end_count b
counts-append [] b cut = sym (zero-add (line_end_count b))
counts-append (x ∷ a) b cut = line_end_count-append (x ∷ a) b (no_feed b (cut (omega arith)))

-- the columns of the last line of a text that is cut
last_columns-append : (a b : List ℕ) → IsUtf8 a → IsUtf8 b → Continues a b
    → columns (after_last is_line_end (a ++ b)) ≡ columns (after_last is_line_end b)
    + cond (line_end_count b == 0) (columns (after_last is_line_end a)) 0
last_columns-append a b a_utf8 b_utf8 cut = rw (line_end_count-none b) (by (list_any is_line_end b) refl)
  where
    by : (any : Bool) → list_any is_line_end b ≡ any
        → columns (after_last is_line_end (a ++ b)) ≡ columns (after_last is_line_end b)
        + cond (not (list_any is_line_end b)) (columns (after_last is_line_end a)) 0
    by true e = rw (after_last-some is_line_end a b e, e) (omega arith)
    by false e =
        let line = after_last is_line_end a in
        let len = length-drop (length a - suffix_len (λ x. not (is_line_end x)) a) a in
        let added : columns (line ++ b) ≡ columns line + columns b =
        columns-append line b (after_last-utf8 a a_utf8) b_utf8 (λ some. cut (omega (arith, len))) in
        rw (after_last-none is_line_end a b e, after_last-none is_line_end [] b e, e) (omega (arith, added))

-- the parts of a text that is cut are texts
parts-utf8 : (a b : List ℕ) → IsUtf8 (a ++ b) → Continues a b → IsUtf8 a × IsUtf8 b
parts-utf8 [] b utf8 cut = (IsUtf8-nil, utf8)
parts-utf8 (x ∷ a) [] utf8 cut = (subst IsUtf8 (append-nil (x ∷ a)) utf8, IsUtf8-nil)
parts-utf8 (x ∷ a) (c ∷ b) utf8 cut =
    let is = cut (omega arith) (omega arith) in
    let front = x ∷ a in
    let first : get_or (front ++ c ∷ b) (length front) 0 ≡ c = get_or-append_seam front c b 0 in
    let ascii : c < 128 = grind (arith, nat_tests, is) in
    let boundary = IsCharBoundary-before_ascii (front ++ c ∷ b) (length front)
    (omega (arith, length-append front (c ∷ b))) (omega (arith, first)) in (
      subst IsUtf8 (take-append_seam front (c ∷ b)) (IsUtf8-take (front ++ c ∷ b) (length front) utf8 boundary),
      subst IsUtf8 (drop-append_seam front (c ∷ b)) (IsUtf8-drop (front ++ c ∷ b) (length front) utf8 boundary),
    )

-- the columns of a line are those before the cut and those after it, if no line ends in between
added_columns : (count before after : ℕ) → 1 + after < 2 ^ 64
    → cond (1 + count == 1) (min (min (1 + before) (2 ^ 64 - 1) + (1 + after - 1)) (2 ^ 64 - 1)) (1 + after)
    ≡ min (1 + (after + cond (count == 0) before 0)) (2 ^ 64 - 1)
added_columns zero before after fits = omega arith
added_columns (suc count) before after fits = grind (arith, nat_tests)

-- the position after a part of a source that begins at a position
pub position_after : (s text : List ℕ) (o n line column : ℕ) (at : ℕ × ℕ) → o ≤ n → n ≤ length s → length s < 2 ^ 63
    → (0 < o → is_cut (get_or s o 0) ≡ true) → IsPositionAt s o line column
    → (IsUtf8 (slice_range s o n) → text ≡ slice_range s o n)
    → at ≡ position_at (length text) text → at.1 < 2 ^ 64
    → IsPositionAt s n (min (line + (at.0 - 1)) (2 ^ 64 - 1))
    (cond (at.0 == 1) (min (column + (at.1 - 1)) (2 ^ 64 - 1)) at.1)
position_after s text o n line column at from within small cut is same here fits utf8 =
    let a = take o s in
    let b = slice_range s o n in
    let more : n ≡ o + (n - o) = omega arith in
    let whole : take n s ≡ a ++ b = ap (λ k. take k s) more ∙ take-add o (n - o) s in
    let first : 0 < n - o → get_or b 0 0 ≡ get_or s o 0 =
    λ some. get_or-take (n - o) (drop o s) 0 0 some ∙ get_or-drop o s 0 0 ∙ ap (λ k. get_or s k 0) (add-zero o) in
    let taken = length-take {A = ℕ} in
    let continues : Continues a b = λ some others.
    subst (λ c. is_cut c ≡ true) (sym (first (omega (arith, taken)))) (cut (omega (arith, taken))) in
    let (a_utf8, b_utf8) = parts-utf8 a b (subst IsUtf8 whole utf8) continues in
    let (line_is, column_is) = is a_utf8 in
    let text_is = same b_utf8 in
    let at_is : at ≡ (1 + line_end_count b, 1 + columns (after_last is_line_end b)) =
    here ∙ rw (text_is, take-length b) refl in
    let counts : line_end_count (take n s) ≡ line_end_count a + line_end_count b =
    ap line_end_count whole ∙ counts-append a b continues in
    let width : columns (after_last is_line_end (take n s)) ≡ columns (after_last is_line_end b)
    + cond (line_end_count b == 0) (columns (after_last is_line_end a)) 0 =
    ap (λ l. columns (after_last is_line_end l)) whole ∙ last_columns-append a b a_utf8 b_utf8 continues in
    let few = line_end_count-le (take n s) in
    let len = length-take-le n s within in
    let lines : at.0 ≡ 1 + line_end_count b = ap (λ p. p.0) at_is in
    let columns_are : at.1 ≡ 1 + columns (after_last is_line_end b) = ap (λ p. p.1) at_is in
    let fitting = subst (λ k. k < 2 ^ 64) columns_are fits in (
      omega arith,
      rw (lines, column_is, columns_are, width) (added_columns (line_end_count b) _ _ fitting),
    )
