-- The walk of an expansion over cells.
use Rattle.std.proofs.Common.{◌≡◌, ℕ, zero, suc, ◌+◌, ◌<◌, ◌≤◌, true, nat_lt, get_or, Option, Some, None, List, [], ◌∷◌, ◌++◌, length, length-append, append-nil, append_assoc, refl, sym, ap, ◌∙◌, subst, arith}
use Rattle.std.proofs.lemmas.Bool.Decides.{nat_tests}
use Rattle.std.proofs.lemmas.Option.{slice_get_read}
use Rattle.std.specs.Prelude.{IfSome, slice_get}
use Rattle.subst_indexed.specs.Cell.{decoded}
use Rattle.subst_indexed.specs.Expansion.{Expansion, Gives, Lacks, Breaks, Values, part_output, part_jump, outputs, after, in_row, expansion, written_in, cells_written}
use Rattle.subst_indexed.specs.Slot.{Agree, known_at}
use Rattle.subst_indexed.specs.Walk.{Advances, EndsAt}
use Rattle.subst_indexed.specs.Output.{Puts}
use Rattle.subst_indexed.specs.declared.cell.Cell.{Cell}

-- an expansion that begins at a cell begins with the cell's output
pub outputs_at : (cells : List Cell) (at : ℕ) (cell : Cell) (s : List ℕ) (values : Values)
    → slice_get cells at ≡ Some cell
    → outputs cells at s values
    ≡ part_output (decoded cell) s values ∷ outputs cells (at + (1 + part_jump (decoded cell) values)) s values
outputs_at [] at cell s values is = absurd cc
outputs_at (first ∷ rest) zero cell s values is =
    let same : first ≡ cell = cc in
    subst (λ (it : Cell). outputs (first ∷ rest) 0 s values
    ≡ part_output (decoded it) s values
    ∷ outputs (first ∷ rest) (0 + (1 + part_jump (decoded it) values)) s values) same
    (ap (λ n. part_output (decoded first) s values ∷ outputs (first ∷ rest) n s values)
    (skips (part_jump (decoded first) values)))
  where
    skips : (jump : ℕ) → suc jump ≡ 0 + (1 + jump)
    skips jump = omega arith
outputs_at (first ∷ rest) (suc at) cell s values is =
    outputs_at rest at cell s values is
    ∙ ap (λ n. part_output (decoded cell) s values ∷ outputs (first ∷ rest) n s values)
    (later (part_jump (decoded cell) values))
  where
    later : (jump : ℕ) → suc (at + (1 + jump)) ≡ suc at + (1 + jump)
    later jump = omega arith

-- at the end of the cells nothing is left
pub expansion-end : (cells : List Cell) (at : ℕ) (s : List ℕ) (values : Values) → at ≡ length cells
    → expansion cells at s values ≡ Gives []
expansion-end [] zero s values is = refl
expansion-end [] (suc at) s values is = absurd (omega arith)
expansion-end (cell ∷ rest) zero s values is = absurd (omega arith)
expansion-end (cell ∷ rest) (suc at) s values is = expansion-end rest at s values (omega arith)

-- past the end the cells are no template
pub expansion-past : (cells : List Cell) (at : ℕ) (s : List ℕ) (values : Values) → length cells < at
    → expansion cells at s values ≡ Breaks
expansion-past [] zero s values past = absurd (omega arith)
expansion-past [] (suc at) s values past = refl
expansion-past (cell ∷ rest) zero s values past = absurd (omega arith)
expansion-past (cell ∷ rest) (suc at) s values past = expansion-past rest at s values (omega arith)

-- bytes before bytes before an expansion
after-append : (x y : List ℕ) (e : Expansion) → after (x ++ y) e ≡ after x (after y e)
after-append x y (Gives z) = ap Gives (append_assoc x y z)
after-append x y (Lacks name) = refl
after-append x y Breaks = refl

after-nil : (e : Expansion) → after [] e ≡ e
after-nil (Gives z) = refl
after-nil (Lacks name) = refl
after-nil Breaks = refl

-- the expansion isn't bytes
abbrev pub NotBytes : Expansion → Type 0
NotBytes (Gives x) = ⊥
NotBytes e = Unit {0}

module _ (cells : List Cell) (at : ℕ) (cell : Cell) (s : List ℕ) (values : Values)
    (is : slice_get cells at ≡ Some cell) where
  -- the expansion from a cell on, by the cell's output
  expansion_at : (e : Expansion) → part_output (decoded cell) s values ≡ e
      → expansion cells at s values
      ≡ in_row (e ∷ outputs cells (at + (1 + part_jump (decoded cell) values)) s values)
  expansion_at e gives =
      ap in_row (outputs_at cells at cell s values is)
      ∙ ap (λ it. in_row (it ∷ outputs cells (at + (1 + part_jump (decoded cell) values)) s values)) gives

  written_at : (e : Expansion) → part_output (decoded cell) s values ≡ e
      → cells_written cells at s values
      ≡ written_in (e ∷ outputs cells (at + (1 + part_jump (decoded cell) values)) s values)
  written_at e gives =
      ap written_in (outputs_at cells at cell s values is)
      ∙ ap (λ it. written_in (it ∷ outputs cells (at + (1 + part_jump (decoded cell) values)) s values)) gives

-- a walk ends at a cell whose output isn't bytes
pub ends_at : (Agrees : Values → Type 0) (cells : List Cell) (s : List ℕ) (at : ℕ) (cell : Cell) (e : Expansion)
    → slice_get cells at ≡ Some cell → NotBytes e
    → ((values : Values) → Agrees values → part_output (decoded cell) s values ≡ e)
    → EndsAt Agrees cells s at e
ends_at Agrees cells s at cell (Gives x) is ends moves = absurd ends
ends_at Agrees cells s at cell (Lacks name) is ends moves =
    λ values agrees. expansion_at cells at cell s values is (Lacks name) (moves values agrees)
ends_at Agrees cells s at cell Breaks is ends moves =
    λ values agrees. expansion_at cells at cell s values is Breaks (moves values agrees)

-- some values agree with what is known
pub agreeing : {V : Type 0} (known : V → Option (Option (List ℕ))) (slots : List V)
    → (values : Values) × Agree known slots values
agreeing known slots =
    (λ number. filled (known_at known slots number), λ number. fits (known_at known slots number))
  where
    filled : Option (Option (List ℕ)) → Option (List ℕ)
    filled (Some value) = value
    filled None = None

    fits : (value : Option (Option (List ℕ))) → IfSome value (λ it. filled value ≡ it)
    fits (Some value) = refl
    fits None = tt

module _ {W First : Type 0} (holds : W → First → List ℕ → Type 0) (len capacity : W → ℕ)
    (Agrees : Values → Type 0) (cells : List Cell) (s : List ℕ) where
  -- nothing is appended at the beginning
  pub advances_none : (from : ℕ) (output : W) → Advances holds len capacity Agrees cells s from from output output
  advances_none from output = record {
    bytes = [];
    puts = λ first x held. subst (holds output first) (sym (append-nil x)) held;
    long = omega arith;
    room = omega arith;
    forward = omega arith;
    goes_on = λ values agrees. sym (after-nil (expansion cells from s values));
    writes_on = λ values agrees. refl;
  }

  -- a cell's output is appended
  pub advances_by : (from at skip : ℕ) (before mid now : W) (cell : Cell) (x : List ℕ)
      → Advances holds len capacity Agrees cells s from at before mid → slice_get cells at ≡ Some cell
      → ((values : Values) → Agrees values
      → (part_output (decoded cell) s values ≡ Gives x) × (part_jump (decoded cell) values ≡ skip))
      → Puts holds mid x now → len now ≡ len mid + length x → capacity mid ≤ capacity now
      → Advances holds len capacity Agrees cells s from (at + (1 + skip)) before now
  advances_by from at skip before mid now cell x so_far is moves puts long grows = record {
    bytes = so_far.bytes ++ x;
    puts = λ first y held. subst (holds now first) (append_assoc y so_far.bytes x)
        (puts first (y ++ so_far.bytes) (so_far.puts first y held));
    long = omega (arith, so_far.long, long, length-append so_far.bytes x);
    room = omega (arith, so_far.room, grows);
    forward = omega (arith, so_far.forward);
    goes_on = λ values agrees.
        let move = moves values agrees in
        so_far.goes_on values agrees
        ∙ ap (after so_far.bytes) (expansion_at cells at cell s values is (Gives x) move.0
        ∙ ap (λ n. after x (expansion cells (at + (1 + n)) s values)) move.1)
        ∙ sym (after-append so_far.bytes x (expansion cells (at + (1 + skip)) s values));
    writes_on = λ values agrees.
        let move = moves values agrees in
        so_far.writes_on values agrees
        ∙ ap (λ y. so_far.bytes ++ y) (written_at cells at cell s values is (Gives x) move.0
        ∙ ap (λ n. x ++ cells_written cells (at + (1 + n)) s values) move.1)
        ∙ sym (append_assoc so_far.bytes x (cells_written cells (at + (1 + skip)) s values));
  }

  -- a cell is passed without any bytes
  pub advances_past : (from at : ℕ) (before now : W) (cell : Cell)
      → Advances holds len capacity Agrees cells s from at before now → slice_get cells at ≡ Some cell
      → ((values : Values) → Agrees values
      → (part_output (decoded cell) s values ≡ Gives []) × (part_jump (decoded cell) values ≡ 0))
      → Advances holds len capacity Agrees cells s from (at + 1) before now
  advances_past from at before now cell so_far is moves =
      advances_by from at 0 before now now cell [] so_far is moves
      (λ first x held. subst (holds now first) (sym (append-nil x)) held) (omega arith) (omega arith)

  -- an output that is too small for a cell's output is too small for the expansion
  pub too_small : (from at : ℕ) (before mid now : W) (cell : Cell) (x : List ℕ)
      → Advances holds len capacity Agrees cells s from at before mid → slice_get cells at ≡ Some cell
      → ((values : Values) → Agrees values → part_output (decoded cell) s values ≡ Gives x)
      → Puts holds mid [] now → capacity mid < len mid + length x
      → ((y : List ℕ) × Puts holds before y now)
      × ((values : Values) → Agrees values
      → capacity before < len before + length (cells_written cells from s values))
  too_small from at before mid now cell x so_far is moves puts full = (
    (
      so_far.bytes ++ [],
      λ first y held.
          subst (holds now first) (append_assoc y so_far.bytes [])
          (puts first (y ++ so_far.bytes) (so_far.puts first y held)),
    ),
    λ values agrees.
        let rest = cells_written cells (at + (1 + part_jump (decoded cell) values)) s values in
        let all : length (cells_written cells from s values) ≡ length (so_far.bytes ++ (x ++ rest)) =
        ap length (so_far.writes_on values agrees
        ∙ ap (λ y. so_far.bytes ++ y)
        (written_at cells at cell s values is (Gives x) (moves values agrees)))
        in
        omega (
          arith,
          so_far.long,
          so_far.room,
          full,
          all,
          length-append so_far.bytes (x ++ rest),
          length-append x rest,
        ),
  )

-- a cell that is read at an index is there
pub found_at : (cells : List Cell) (at : ℕ) (cell : Cell) → true ≡ nat_lt at (length cells)
    → cell ≡ get_or cells at cell → slice_get cells at ≡ Some cell
found_at cells at cell below read =
    let inside : at < length cells = grind (arith, nat_tests, below) in
    slice_get_read cells (length cells) at cell refl inside read
