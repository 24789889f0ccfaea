-- Lemmas on values files and their lines.
use Rattle.std.proofs.Common.{◌≡◌, ◌≢◌, ◌<◌, ℕ, Bool, true, false, List, [], ◌∷◌, ◌++◌, length, ltb, Option, Some, None, IsSome, inl, inr, refl, sym, ap, ◌∙◌, append_assoc, append-nil, arith}
use Rattle.std.proofs.lemmas.Bool.{ltb-false, ltb-true}
use Rattle.std.proofs.lemmas.Grind.{common_steps}
use Rattle.std.proofs.lemmas.Option.{none-some, same_Some}
use Rattle.std.proofs.lemmas.List.Splits.{slice_split_first}
use Rattle.std.specs.List.{after_first, before_first, position_or_len, slice_split}
use Rattle.subst_expander.proofs.EntryLemmas.{place_within}
use Rattle.subst_expander.specs.Layers.{Entry}
use Rattle.subst_expander.specs.ValuesFaults.{AreRefused, IsRefusedFile}
use Rattle.subst_expander.specs.ValuesFile.{Line, Nothing, Sets, Wrong, before, is_line_feed, parsed, values_in, values_of_files, values_of_lines, with_file, with_line}
use Rattle.subst_expander.specs.declared.source.Refused.{Refused}
use Rattle.subst_expander.specs.declared.values_file.ValuesSource.{ValuesSource}

-- if no byte passes, the list is its only part
split_whole : (p : ℕ → Bool) (bytes : List ℕ) → position_or_len p bytes ≡ length bytes
    → slice_split p bytes ≡ bytes ∷ []
split_whole p [] whole = refl
split_whole p (b ∷ bytes) whole = grind (arith, common_steps, split_whole p bytes)

-- the entries of the first line and those after it, if the first line has an end
line_ended : (bytes : List ℕ) → position_or_len is_line_feed bytes < length bytes
    → values_of_lines (slice_split is_line_feed bytes)
    ≡ with_line (parsed (before_first is_line_feed bytes))
    (values_of_lines (slice_split is_line_feed (after_first is_line_feed bytes)))
line_ended bytes below = ap values_of_lines (slice_split_first is_line_feed bytes 0 below)

-- the entries of the last line
line_last : (bytes : List ℕ) → position_or_len is_line_feed bytes ≡ length bytes
    → values_of_lines (slice_split is_line_feed bytes)
    ≡ with_line (parsed (before_first is_line_feed bytes))
    (values_of_lines (slice_split is_line_feed (after_first is_line_feed bytes)))
line_last bytes whole =
    let all : before_first is_line_feed bytes ≡ bytes = grind (arith, common_steps) in
    let none : after_first is_line_feed bytes ≡ [] = grind (arith, common_steps) in
    rw (all, none) (ap values_of_lines (split_whole is_line_feed bytes whole))

-- the entries of the first line and those after it
line_first : (bytes : List ℕ) → values_of_lines (slice_split is_line_feed bytes)
    ≡ with_line (parsed (before_first is_line_feed bytes))
    (values_of_lines (slice_split is_line_feed (after_first is_line_feed bytes)))
line_first bytes = of (ltb (position_or_len is_line_feed bytes) (length bytes)) refl
  where
    of : (test : Bool) → ltb (position_or_len is_line_feed bytes) (length bytes) ≡ test
        → values_of_lines (slice_split is_line_feed bytes)
        ≡ with_line (parsed (before_first is_line_feed bytes))
        (values_of_lines (slice_split is_line_feed (after_first is_line_feed bytes)))
    of true below = line_ended bytes (ltb-true _ _ below)
    of false past =
        let least = ltb-false (position_or_len is_line_feed bytes) (length bytes) past in
        line_last bytes (omega (arith, place_within is_line_feed bytes))

-- the entries of the file once a line is read
pub line_taken : (whole : Option (List Entry)) (some more : List Entry) (rest line after : List ℕ)
    → whole ≡ before some (values_of_lines (slice_split is_line_feed rest))
    → line ≡ before_first is_line_feed rest → after ≡ after_first is_line_feed rest
    → ((later : Option (List Entry)) → before some (with_line (parsed line) later) ≡ before more later)
    → whole ≡ before more (values_of_lines (slice_split is_line_feed after))
line_taken whole some more rest line after so_far line_is after_is step =
    let first : values_of_lines (slice_split is_line_feed rest)
    ≡ with_line (parsed line) (values_of_lines (slice_split is_line_feed after)) =
    rw (line_is, after_is) (line_first rest) in
    so_far ∙ ap (before some) first ∙ step (values_of_lines (slice_split is_line_feed after))

-- a line is right if it is read, and wrong if not
pub right_line : (line : List ℕ) (some more : List Entry)
    → ((later : Option (List Entry)) → before some (with_line (parsed line) later) ≡ before more later)
    → parsed line ≢ Wrong
right_line line some more step wrong =
    none-some _ (sym (ap (λ it. before some (with_line it (Some []))) wrong) ∙ step (Some []))

pub wrong_line : (line : Line) (some : List Entry)
    → ((later : Option (List Entry)) → before some (with_line line later) ≡ None) → line ≡ Wrong
wrong_line Nothing some step = absurd (none-some _ (sym (step (Some []))))
wrong_line (Sets entry) some step = absurd (none-some _ (sym (step (Some []))))
wrong_line Wrong some step = refl

-- the next file has entries
pub read_last : (files : List ValuesSource) (file : ValuesSource) (refused : List Refused)
    → IsSome (values_in file) → AreRefused files refused → AreRefused (files ++ file ∷ []) refused
read_last [] file refused some none = inl (some, none)
read_last (first ∷ files) file refused some (inl (read, are)) = inl (read, read_last files file refused some are)
read_last (first ∷ files) file refused some (inr (it, later, same, is, are)) =
    inr (it, later, same, is, read_last files file later some are)

-- the next file is refused
pub refused_last : (files : List ValuesSource) (file : ValuesSource) (refused : List Refused) (last : Refused)
    → IsRefusedFile file last → AreRefused files refused
    → AreRefused (files ++ file ∷ []) (refused ++ last ∷ [])
refused_last [] file refused last is none = inr (last, [], ap (λ l. l ++ last ∷ []) none, is, refl)
refused_last (first ∷ files) file refused last is (inl (read, are)) =
    inl (read, refused_last files file refused last is are)
refused_last (first ∷ files) file refused last is (inr (it, later, same, at, are)) =
    inr (it, later ++ last ∷ [], ap (λ l. l ++ last ∷ []) same, at, refused_last files file later last is are)

-- the entries of one more file come after those of the files before it
pub values_more : (files : List ValuesSource) (file : ValuesSource) (xs ys : List Entry)
    → values_of_files files ≡ Some xs → values_in file ≡ Some ys
    → values_of_files (files ++ file ∷ []) ≡ Some (xs ++ ys)
values_more [] file xs ys so_far gives =
    rw (gives, append-nil ys) (ap (λ l. Some (l ++ ys)) (same_Some [] xs so_far))
values_more (first ∷ files) file xs ys so_far gives =
    of (values_in first) (values_of_files files)
    (λ more is. values_more files file more ys is gives) so_far
  where
    of : (here later : Option (List Entry))
        → ((more : List Entry) → later ≡ Some more
        → values_of_files (files ++ file ∷ []) ≡ Some (more ++ ys))
        → with_file here later ≡ Some xs
        → with_file here (values_of_files (files ++ file ∷ [])) ≡ Some (xs ++ ys)
    of None later longer none = absurd (none-some xs none)
    of (Some some) None longer none = absurd (none-some xs none)
    of (Some some) (Some more) longer both =
        ap (before some) (longer more refl) ∙ ap Some (sym (append_assoc some more ys))
        ∙ ap (λ l. Some (l ++ ys)) (same_Some (some ++ more) xs both)
