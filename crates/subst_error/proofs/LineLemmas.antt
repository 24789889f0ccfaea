-- The line that contains a byte offset.
use Rattle.std.proofs.Common.{◌≡◌, ℕ, ◌+◌, ◌-◌, ◌<◌, ◌≤◌, false, not, List, ◌++◌, length, take, drop, get_or, refl, sym, ap, ◌∙◌, subst, arith, slice_range}
use Rattle.std.proofs.lemmas.Bool.Decides.{nat_tests}
use Rattle.std.proofs.lemmas.List.{drop-take, drop-drop, take-take, take-append-drop, length-take-le}
use Rattle.std.proofs.lemmas.Str.{IsCharBoundary-after_ascii}
use Rattle.std.specs.List.{suffix_len}
use Rattle.std.specs.Str.{IsUtf8, IsCharBoundary}
use Rattle.subst_error.specs.Line.{is_line_end, line_before}

-- a range is the rest of a prefix
slice_range-drop : (s : List ℕ) (i j : ℕ) → i ≤ j → slice_range s i j ≡ drop i (take j s)
slice_range-drop s i j le =
    let same : i + (j - i) ≡ j = omega arith in
    sym (drop-take i (j - i) s) ∙ ap (λ n. drop i (take n s)) same

-- a range is the concatenation of two ranges
pub slice_range_in_two : (s : List ℕ) (i j k : ℕ) → i ≤ j → j ≤ k
    → slice_range s i k ≡ slice_range s i j ++ slice_range s j k
slice_range_in_two s i j k le more =
    let a = j - i in
    let b = k - j in
    let whole : k - i ≡ a + b = omega arith in
    let middle : i + a ≡ j = omega arith in
    let xs = drop i s in
    let front : take a (take (a + b) xs) ≡ take a xs = take-take a (a + b) xs (omega arith) in
    let back : drop a (take (a + b) xs) ≡ take b (drop j s) =
    drop-take a b xs ∙ ap (take b) (drop-drop a i s ∙ ap (λ n. drop n s) middle) in
    ap (λ n. take n xs) whole ∙ sym (take-append-drop a (take (a + b) xs)) ∙ cc

-- the part of a line before an offset, by the number of bytes before the offset that end no line
pub range_before_offset : (s : List ℕ) (offset start : ℕ) → start ≤ offset → offset ≤ length s
    → suffix_len (λ b. not (is_line_end b)) (take offset s) ≡ offset - start
    → slice_range s start offset ≡ line_before offset s
range_before_offset s offset start before within passed =
    let long : length (take offset s) ≡ offset = length-take-le offset s within in
    let same : offset - (offset - start) ≡ start = omega arith in
    slice_range-drop s start offset before ∙ rw (passed, long, same) refl

-- a line begins at a character boundary, since the line end before it is an ASCII byte
pub boundary_after_line_end : (s : List ℕ) (start : ℕ) → IsUtf8 s → 0 < start → start ≤ length s
    → not (is_line_end (get_or s (start - 1) 0)) ≡ false → IsCharBoundary s start
boundary_after_line_end s start utf8 some within ends =
    let ascii : get_or s (start - 1) 0 < 128 = line_end_ascii (get_or s (start - 1) 0) ends in
    let next : start - 1 + 1 ≡ start = omega arith in
    subst (IsCharBoundary s) next (IsCharBoundary-after_ascii s (start - 1) utf8 (omega arith) ascii)
  where
    line_end_ascii : (b : ℕ) → not (is_line_end b) ≡ false → b < 128
    line_end_ascii b is = grind (arith, nat_tests)
