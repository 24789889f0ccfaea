-- Expansion in steps, by walks over the cells of parts.
use Rattle.std.proofs.Common.{◌≡◌, ℕ, zero, suc, ◌-◌, ◌^◌, ◌≤◌, true, Some, List, [], ◌++◌, take, drop, length, length-append, length-take-le, replicate, Result, Ok, Err, refl, sym, ap, ◌∙◌, arith}
use Rattle.std.proofs.lemmas.Bool.{cases_lt}
use Rattle.std.proofs.Common.{inl, inr}
use Rattle.std.proofs.lemmas.List.{length-replicate, take-append-drop}
use Rattle.subst_indexed.specs.Expansion.{Expansion, Gives, Lacks, Breaks, Values, after, expansion, cells_written}
use Rattle.subst_indexed.specs.Step.{IsRest, Steps, StepsTo, rest_expansion, rest_written}
use Rattle.subst_indexed.specs.Template.{is_whole, part_cells}
use Rattle.subst_indexed.specs.Walk.{Advances, EndsAt, Walks}
use Rattle.subst_indexed.specs.Output.{Puts}
use Rattle.subst_indexed.specs.SliceOutput.{SliceAtFirst, SliceHolds}
use Rattle.subst_indexed.specs.declared.cell.Cell.{Cell}
use Rattle.subst_indexed.specs.declared.output.SliceOutput.{SliceOutput}
use Rattle.subst_indexed.specs.declared.walk.Stop.{Stop}
use Rattle.subst_indexed.specs.declared.walk.Stop.TheVariants.{Full, Missing, Asks, NotATemplate}

-- bytes of this number that a slice begins with, if it has so many
front_of : (slice : List ℕ) (written : ℕ)
    → (x : List ℕ) × (written ≡ length x) × (written ≤ length slice → x ≡ take written slice)
front_of slice written =
    elim (cases_lt (length slice) written) [
      | inl longer ↦ (replicate written 0, sym (length-replicate written 0), λ fits. absurd (omega arith))
      | inr fits ↦ (take written slice, sym (length-take-le written slice fits), λ _. refl)
    ]

-- a slice that has so many bytes begins with the front
begins : (slice : List ℕ) (written : ℕ) (front : List ℕ) → written ≡ length front
    → (written ≤ length slice → front ≡ take written slice) → length front ≤ length slice
    → slice ≡ front ++ drop (length front) slice
begins slice written front counted is fits =
    sym (ap (λ n. front ++ drop n slice) (sym counted)
    ∙ ap (λ it. it ++ drop written slice) (is (omega (arith, counted, fits))) ∙ take-append-drop written slice)

-- the slice after the bytes are written, if they fit
written_out : (before now front bytes : List ℕ) (old new : ℕ) → old ≡ length front → new ≡ length (front ++ bytes)
    → (old ≤ length before → front ≡ take old before)
    → (length (front ++ bytes) ≤ length before → now ≡ (front ++ bytes) ++ drop (length (front ++ bytes)) before)
    → new ≤ length before → now ≡ take old before ++ bytes ++ drop new before
written_out before now front bytes old new counted all is holds fits =
    holds (omega (arith, all, fits))
    ∙ ap (λ n. (front ++ bytes) ++ drop n before) (sym all)
    ∙ ap (λ it. it ++ bytes ++ drop new before) (is (omega (arith, counted, all, fits, length-append front bytes)))

-- the contents of a slice, as an output
abbrev slice_holds : SliceOutput → SliceAtFirst → List ℕ → Type 0
slice_holds output first x = SliceHolds output.slice.ghost_name output.slice.now output.written first x

module _ (Agrees : Values → Type 0) (cells : List Cell) (s : List ℕ) (parts : List Cell)
    (parts_are : Some parts ≡ part_cells cells (length s)) where
  -- what is left of a template, by the cells of its parts
  rest_expansion-parts : (at : ℕ) (values : Values) → (at ≡ 0 → is_whole cells ≡ true)
      → rest_expansion cells at s values ≡ expansion parts at s values
  rest_expansion-parts zero values whole = rw (whole refl, ← parts_are) refl
  rest_expansion-parts (suc at) values whole = rw (← parts_are) refl

  rest_written-parts : (at : ℕ) (values : Values) → (at ≡ 0 → is_whole cells ≡ true)
      → rest_written cells at s values ≡ cells_written parts at s values
  rest_written-parts zero values whole = rw (whole refl, ← parts_are) refl
  rest_written-parts (suc at) values whole = rw (← parts_are) refl

  -- a walk from a cell on is a step of the template
  slice_steps : (from to : ℕ) (before now : SliceOutput) → (from ≡ 0 → is_whole cells ≡ true)
      → Advances slice_holds (λ output. output.written) (λ _. 2 ^ 64 - 1) Agrees parts s from to before now
      → Steps Agrees cells s (record { index = from; written = before.written })
      (record { index = to; written = now.written }) before.slice.now now.slice.now
  slice_steps from to before now whole walk =
      let (front, counted, is_front) = front_of before.slice.now before.written in
      let first : SliceAtFirst = record { name = before.slice.ghost_name; bytes = before.slice.now } in
      let held = walk.puts first front (
        refl,
        counted,
        refl,
        λ fits.
            begins before.slice.now before.written front counted is_front fits,
      )
      in
      record {
        bytes = walk.bytes;
        counted = walk.long;
        put = λ fits.
            written_out before.slice.now now.slice.now front walk.bytes before.written now.written counted held.1
            is_front held.3 fits;
        continues = λ values agrees.
            rest_expansion-parts from values whole ∙ walk.goes_on values agrees
            ∙ ap (after walk.bytes)
            (sym (rest_expansion-parts to values (λ none. whole (omega (arith, none, walk.forward)))));
      }

  -- so is the end of a walk
  is_rest : (from to : ℕ) (written : ℕ) (e : Expansion) → from ≤ to → (from ≡ 0 → is_whole cells ≡ true)
      → EndsAt Agrees parts s to e → IsRest Agrees cells s (record { index = to; written = written }) e
  is_rest from to written e forward whole ends = λ values agrees.
      rest_expansion-parts to values (λ none. whole (omega (arith, none, forward))) ∙ ends values agrees

  pub steps : (is_unasked : ℕ → Type 0) (result : Result (Unit {0}) Stop) (from to : ℕ)
      (before now : SliceOutput) → (from ≡ 0 → is_whole cells ≡ true)
      → Walks slice_holds (λ output. output.written) (λ _. 2 ^ 64 - 1) is_unasked Agrees parts s result from to
      before now
      → StepsTo is_unasked Agrees cells s result (record { index = from; written = before.written })
      (record { index = to; written = now.written }) before.slice.now now.slice.now
  steps is_unasked (Ok done) from to before now whole (walk, ends) = (
    slice_steps from to before now whole walk,
    is_rest from to now.written (Gives []) walk.forward whole ends,
  )
  steps is_unasked (Err (Missing name)) from to before now whole (walk, ends) = (
    slice_steps from to before now whole walk,
    is_rest from to now.written (Lacks name) walk.forward whole ends,
  )
  steps is_unasked (Err NotATemplate) from to before now whole (walk, ends) = (
    slice_steps from to before now whole walk,
    is_rest from to now.written Breaks walk.forward whole ends,
  )
  steps is_unasked (Err (Asks number)) from to before now whole (walk, unasked) =
      (slice_steps from to before now whole walk, unasked)
  steps is_unasked (Err (Full failed)) from to before now whole (some, small) = λ values agrees.
      omega (arith, small values agrees, ap length (rest_written-parts from values whole))

  -- what is appended to a slice is written in its place
  named_same : (before now : SliceOutput) (x : List ℕ) → Puts slice_holds before x now
      → now.slice.ghost_name ≡ before.slice.ghost_name
  named_same before now x puts =
      let (front, counted, is_front) = front_of before.slice.now before.written in
      (puts record { name = before.slice.ghost_name; bytes = before.slice.now } front
      (refl, counted, refl, λ fits. begins before.slice.now before.written front counted is_front fits)).0

  pub same_name : (is_unasked : ℕ → Type 0) (result : Result (Unit {0}) Stop) (from to : ℕ)
      (before now : SliceOutput)
      → Walks slice_holds (λ output. output.written) (λ _. 2 ^ 64 - 1) is_unasked Agrees parts s result from to
      before now
      → now.slice.ghost_name ≡ before.slice.ghost_name
  same_name is_unasked (Ok done) from to before now walk = named_same before now walk.0.bytes walk.0.puts
  same_name is_unasked (Err (Missing name)) from to before now walk =
      named_same before now walk.0.bytes walk.0.puts
  same_name is_unasked (Err NotATemplate) from to before now walk =
      named_same before now walk.0.bytes walk.0.puts
  same_name is_unasked (Err (Asks number)) from to before now walk =
      named_same before now walk.0.bytes walk.0.puts
  same_name is_unasked (Err (Full failed)) from to before now walk = named_same before now walk.0.0 walk.0.1
