-- Bytes that searches skip.
use Rattle.std.proofs.Common.{◌≡◌, ℕ, zero, suc, ◌+◌, ◌-◌, ◌<◌, ◌≢◌, ◌%◌, ◌^◌, Bool, true, false, not, ◌||◌, ◌==◌, ◌≤◌, List, [], ◌∷◌, get_or, length, map, drop, take, refl, sym, ap, ap₂, ◌∙◌, Fits, w8, arith}
use Rattle.std.proofs.lemmas.Bool.{agree_below, agree_below_at}
use Rattle.std.proofs.lemmas.List.{length-map, length-take-le, take_all}
use Rattle.std.proofs.lemmas.List.Sums.{prefix_len-le-length}
use Rattle.std.proofs.lemmas.Simd.{first_set_mask_l, mask_l-mod}
use lib.Lanes.{Each1, mask_l, top}
use Rattle.subst_yaml_reader.specs.Bytes.{is_foreign}
use Rattle.subst_yaml_reader.specs.Runs.{after_block, after_double, after_lines, after_plain, after_single, after_spaces, is_text}
use Rattle.subst_yaml_reader.specs.Search.{after_inner, first_set, is_indentation, is_inner, is_line_feed, len_before, may_be_foreign, may_end_quoted, to_line_feed}
use Rattle.subst_yaml_reader.specs.declared.runs.Escape.TheVariants.{Nothing}

drop_one_more : (k b : ℕ) (rest : List ℕ) → drop k rest ≡ drop (1 + k) (b ∷ rest)
drop_one_more k b rest = let one : 1 + k ≡ suc k = omega arith in rw one refl

-- the text after its first byte, as the code splits it
abbrev pub rest_of : List ℕ → List ℕ
rest_of text = take (length text - 1) (drop 1 text)

rest_of-cons : (b : ℕ) (rest : List ℕ) → rest_of (b ∷ rest) ≡ rest
rest_of-cons b rest = take_all (length (b ∷ rest) - 1) rest (omega arith)

-- The result for a text is unchanged if bytes that it skips are left out.
passed : {A : Type 0} (of : List ℕ → A) (test : ℕ → Bool)
    → ((b : ℕ) (rest : List ℕ) → test b ≡ false → of (b ∷ rest) ≡ of rest)
    → (n : ℕ) (text : List ℕ) → of text ≡ of (drop (len_before test (take n text)) text)
passed of test pass zero text = refl
passed of test pass (suc n) [] = refl
passed of test pass (suc n) (b ∷ rest) = step (test b) refl (passed of test pass n rest)
  where
    step : (c : Bool) → test b ≡ c → of rest ≡ of (drop (len_before test (take n rest)) rest)
        → of (b ∷ rest) ≡ of (drop (len_before test (take (suc n) (b ∷ rest))) (b ∷ rest))
    step true stops later = rw stops refl
    step false passes later = rw passes
        (pass b rest passes ∙ later ∙ ap of (drop_one_more (len_before test (take n rest)) b rest))

-- The result for a text is that for the text after the skipped bytes, whose number is known.
passed_to : {A : Type 0} (of : List ℕ → A) (test : ℕ → Bool)
    → ((b : ℕ) (rest : List ℕ) → test b ≡ false → of (b ∷ rest) ≡ of rest)
    → (n len : ℕ) (text rest : List ℕ) → len ≡ len_before test (take n text) → rest ≡ drop len text
    → of text ≡ of rest
passed_to of test pass n len text rest counts is =
    passed of test pass n text ∙ sym (ap of (is ∙ ap (λ k. drop k text) counts))

pub len_before_within : (test : ℕ → Bool) (n : ℕ) (text : List ℕ) → n ≤ length text
    → len_before test (take n text) ≤ n
len_before_within test n text long =
    omega (arith, prefix_len-le-length (λ b. not (test b)) (take n text), length-take-le n text long)

-- Characters that aren't foreign.
clear_is_not_foreign : (b : ℕ) (rest : List ℕ) → may_be_foreign b ≡ false → is_foreign b rest ≡ false
clear_is_not_foreign b rest clear = grind arith

text_goes_on : (b : ℕ) (rest : List ℕ) → may_be_foreign b ≡ false → is_text (b ∷ rest) ≡ is_text rest
unfolding is_text
text_goes_on b rest clear = rw (clear_is_not_foreign b rest clear, is_text) refl

pub text_passed : (len : ℕ) (text rest : List ℕ) → len ≡ len_before may_be_foreign (take 32 text)
    → rest ≡ drop len text → is_text text ≡ is_text rest
text_passed = passed_to is_text may_be_foreign text_goes_on 32

-- Lines.
line_goes_on : (b : ℕ) (rest : List ℕ) → is_line_feed b ≡ false → to_line_feed (b ∷ rest) ≡ to_line_feed rest
unfolding to_line_feed
line_goes_on b rest other = rw (other, to_line_feed) refl

pub line_passed : (len : ℕ) (text rest : List ℕ) → len ≡ len_before is_line_feed (take 32 text)
    → rest ≡ drop len text → to_line_feed text ≡ to_line_feed rest
line_passed = passed_to to_line_feed is_line_feed line_goes_on 32

line_end_here : (n : ℕ) (text : List ℕ) → len_before is_line_feed (take n text) < n
    → to_line_feed text ≡ drop (len_before is_line_feed (take n text)) text
unfolding to_line_feed
line_end_here zero text below = absurd (omega arith)
line_end_here (suc n) [] below = refl
line_end_here (suc n) (b ∷ rest) below = step (is_line_feed b) refl below (line_end_here n rest)
  where
    step : (c : Bool) → is_line_feed b ≡ c → len_before is_line_feed (take (suc n) (b ∷ rest)) < suc n
        → (len_before is_line_feed (take n rest) < n
        → to_line_feed rest ≡ drop (len_before is_line_feed (take n rest)) rest)
        → to_line_feed (b ∷ rest) ≡ drop (len_before is_line_feed (take (suc n) (b ∷ rest))) (b ∷ rest)
    step true ends below later = rw (ends, to_line_feed) refl
    step false other below later =
        let count = len_before is_line_feed (take n rest) in
        let whole : len_before is_line_feed (take (suc n) (b ∷ rest)) ≡ 1 + count = rw other refl in
        line_goes_on b rest other ∙ later (omega (arith, below, whole)) ∙ drop_one_more count b rest
        ∙ ap (λ k. drop k (b ∷ rest)) (sym whole)

pub line_ends : (len : ℕ) (text rest : List ℕ) → len ≡ len_before is_line_feed (take 32 text)
    → rest ≡ drop len text → len < 32 → to_line_feed text ≡ rest
line_ends len text rest counts is below =
    line_end_here 32 text (omega (arith, counts, below)) ∙ sym (is ∙ ap (λ k. drop k text) counts)

-- Spaces are skipped in the indentation of a line.
spaces_passed : (comments : Bool) (line : ℕ) (text : List ℕ)
    → after_lines comments false line text ≡ after_lines comments false line (after_spaces text)
unfolding after_lines after_spaces
spaces_passed comments line [] = refl
spaces_passed comments line (b ∷ rest) = step (b == 32) refl (spaces_passed comments line rest)
  where
    step : (c : Bool) → (b == 32) ≡ c
        → after_lines comments false line rest ≡ after_lines comments false line (after_spaces rest)
        → after_lines comments false line (b ∷ rest)
        ≡ after_lines comments false line (after_spaces (b ∷ rest))
    step true space later = let is : b ≡ 32 = grind arith in rw (is, after_lines, after_spaces) later
    step false other later = rw (other, after_spaces) refl

pub indentation_passed : (comments : Bool) (line : ℕ) (text next : List ℕ) → 1 ≤ length text
    → is_indentation (get_or text 0 0) ≡ true → next ≡ after_spaces (rest_of text)
    → after_lines comments false line text ≡ after_lines comments false line next
unfolding after_lines
indentation_passed comments line [] next long inside is = absurd (omega arith)
indentation_passed comments line (b ∷ rest) next long inside is =
    let passed = spaces_passed comments line rest in
    rw (is, rest_of-cons b rest) (grind (arith, passed))

-- A comment is skipped up to its line end.
comment_passed : (comments : Bool) (line : ℕ) (text : List ℕ)
    → after_lines comments true line text ≡ after_lines comments false line (to_line_feed text)
unfolding after_lines to_line_feed
comment_passed comments line [] = refl
comment_passed comments line (b ∷ rest) = grind (arith, comment_passed comments line rest)

pub comment_begins : (comments : Bool) (line : ℕ) (text next : List ℕ) → 1 ≤ length text → comments ≡ true
    → get_or text 0 0 ≡ 35 → next ≡ to_line_feed (rest_of text)
    → after_lines comments false line text ≡ after_lines comments false line next
unfolding after_lines
comment_begins comments line [] next long allowed hash is = absurd (omega arith)
comment_begins comments line (b ∷ rest) next long allowed hash is =
    rw (allowed, hash, is, rest_of-cons b rest) (comment_passed true line rest)

-- Text after `|` and `>` is skipped up to its line end.
abbrev pub after_text : (indent : ℕ) (keep : Bool) → List ℕ → List ℕ
after_text indent keep [] = []
after_text indent keep (b ∷ rest) = after_block indent keep false 0 rest rest

block_text_passed : (indent : ℕ) (keep : Bool) (column : ℕ) (end text : List ℕ)
    → after_block indent keep true column end text ≡ after_text indent keep (to_line_feed text)
unfolding after_block to_line_feed
block_text_passed indent keep column end [] = refl
block_text_passed indent keep column end (b ∷ rest) =
    grind (arith, block_text_passed indent keep column end rest)

pub block_text_ends : (indent : ℕ) (keep : Bool) (column : ℕ) (end text next : List ℕ) → 1 ≤ length text
    → get_or text 0 0 ≢ 10 → get_or text 0 0 ≢ 13 → indent ≤ column → next ≡ to_line_feed (rest_of text)
    → after_block indent keep false column end text ≡ after_text indent keep next
unfolding after_block
block_text_ends indent keep column end [] next long other inside past is = absurd (omega arith)
block_text_ends indent keep column end (b ∷ rest) next long other inside past is =
    let passed = block_text_passed indent keep column end rest in
    rw (is, rest_of-cons b rest) (grind (arith, passed))

pub no_text_after : (indent : ℕ) (keep : Bool) (next : List ℕ) → length next < 1
    → after_text indent keep next ≡ next
no_text_after indent keep [] short = refl
no_text_after indent keep (b ∷ rest) short = absurd (omega arith)

pub text_after : (indent : ℕ) (keep : Bool) (next : List ℕ) → 1 ≤ length next
    → after_text indent keep next ≡ after_block indent keep false 0 (rest_of next) (rest_of next)
text_after indent keep [] long = absurd (omega arith)
text_after indent keep (b ∷ rest) long = rw (rest_of-cons b rest) refl

-- Bytes inside unquoted text, and between double quotes.
inner_goes_on : (in_flow : Bool) (end : List ℕ) (b : ℕ) (rest : List ℕ) → is_inner b ≡ true
    → after_plain in_flow end (b ∷ rest) ≡ after_plain in_flow rest rest
unfolding after_plain
inner_goes_on in_flow end b rest inner = grind arith

inner_passed : (in_flow : Bool) (text : List ℕ)
    → after_plain in_flow text text ≡ after_plain in_flow (after_inner text) (after_inner text)
unfolding after_inner
inner_passed in_flow [] = refl
inner_passed in_flow (b ∷ rest) = step (is_inner b) refl (inner_passed in_flow rest)
  where
    step : (c : Bool) → is_inner b ≡ c
        → after_plain in_flow rest rest ≡ after_plain in_flow (after_inner rest) (after_inner rest)
        → after_plain in_flow (b ∷ rest) (b ∷ rest)
        ≡ after_plain in_flow (after_inner (b ∷ rest)) (after_inner (b ∷ rest))
    step true inner later = rw (inner, after_inner) (inner_goes_on in_flow (b ∷ rest) b rest inner ∙ later)
    step false outer later = rw (outer, after_inner) refl

pub inner_run : (in_flow : Bool) (end text next : List ℕ) → 1 ≤ length text
    → is_inner (get_or text 0 0) ≡ true
    → next ≡ after_inner (rest_of text) → after_plain in_flow end text ≡ after_plain in_flow next next
inner_run in_flow end [] next long inner is = absurd (omega arith)
inner_run in_flow end (b ∷ rest) next long inner is = rw (is, rest_of-cons b rest)
    (inner_goes_on in_flow end b rest inner ∙ inner_passed in_flow rest)

neither : (x y : Bool) → (x || y) ≡ false → (x ≡ false) × (y ≡ false)
neither false false none = (refl, refl)
neither false true none = cc
neither true y none = cc

double_goes_on : (b : ℕ) (rest : List ℕ) → may_end_quoted b ≡ false
    → after_double Nothing (b ∷ rest) ≡ after_double Nothing rest
unfolding after_double
double_goes_on b rest quoted =
    let last = neither (b == 34 || b == 39 || b == 92) (b == 10) quoted in
    let escape = neither (b == 34 || b == 39) (b == 92) last.0 in
    let quote = neither (b == 34) (b == 39) escape.0 in
    rw (quote.0, escape.1, last.1, after_double) refl

single_goes_on : (b : ℕ) (rest : List ℕ) → may_end_quoted b ≡ false
    → after_single false (b ∷ rest) ≡ after_single false rest
unfolding after_single
single_goes_on b rest quoted = grind arith

pub double_passed : (len : ℕ) (text rest : List ℕ) → len ≡ len_before may_end_quoted (take 32 text)
    → rest ≡ drop len text → after_double Nothing text ≡ after_double Nothing rest
double_passed = passed_to (after_double Nothing) may_end_quoted double_goes_on 32

pub single_passed : (len : ℕ) (text rest : List ℕ) → len ≡ len_before may_end_quoted (take 32 text)
    → rest ≡ drop len text → after_single false text ≡ after_single false rest
single_passed = passed_to (after_single false) may_end_quoted single_goes_on 32

-- Vectors: lanes that are computed from the bytes, with the top bit set where a test passes.
each_lane : (f : ℕ → ℕ) (test : ℕ → Bool) → agree_below (λ b. top 7 (f b)) test 256 ≡ true → (bytes : List ℕ)
    → Each1 (Fits w8) bytes → map (top 7) (map f bytes) ≡ map test bytes
each_lane f test all [] fits = refl
each_lane f test all (b ∷ rest) fits = ap₂ (λ c cs. c ∷ cs)
    (agree_below_at (λ b. top 7 (f b)) test 256 b all fits.0.fits) (each_lane f test all rest fits.1)

pub first_lane : (f : ℕ → ℕ) (test : ℕ → Bool) (bytes lanes : List ℕ) → length bytes ≡ 32
    → Each1 (Fits w8) bytes → lanes ≡ map f bytes → agree_below (λ b. top 7 (f b)) test 256 ≡ true
    → first_set (mask_l (map (top 7) lanes) % 2 ^ 64) ≡ len_before test bytes
first_lane f test bytes lanes long fits is all =
    let mask = ap (λ l. mask_l l % 2 ^ 64) (ap (map (top 7)) is ∙ each_lane f test all bytes fits)
    ∙ mask_l-mod (map test bytes) 64 (omega (arith, length-map bytes test, long)) in
    ap first_set mask ∙ first_set_mask_l test bytes 32 long (omega arith)
