-- The walk of an expansion over cells: its moves, and how far it came.
use Rattle.std.specs.Prelude.{◌≡◌, ℕ, ◌+◌, ◌<◌, ◌≤◌, List, [], ◌∷◌, ◌++◌, length, Result, Ok, Err}
use Rattle.subst_indexed.specs.Expansion.{Expansion, Gives, Lacks, Breaks, Values, after, expansion, cells_written}
use Rattle.subst_indexed.specs.Output.{Puts}
use Rattle.subst_indexed.specs.declared.cell.Cell.{Cell}
use Rattle.subst_indexed.specs.declared.walk.Move.{Move}
use Rattle.subst_indexed.specs.declared.walk.Move.TheVariants as moves
use Rattle.subst_indexed.specs.declared.walk.Stop.{Stop}
use Rattle.subst_indexed.specs.declared.walk.Stop.TheVariants as stops

-- The move of an expansion at a cell with this output and this jump, if the values are known. `is_unasked`
-- holds of the numbers of values that haven't been asked for.
abbrev pub IsMoveFor : Move → (is_unasked : ℕ → Type 0) → Expansion → (jump : ℕ) → Type 0
IsMoveFor (moves.Bytes bytes skip) is_unasked output jump = (output ≡ Gives bytes.now) × (jump ≡ skip)
IsMoveFor (moves.Byte byte) is_unasked output jump = (output ≡ Gives (byte ∷ [])) × (jump ≡ 0)
IsMoveFor moves.Pass is_unasked output jump = (output ≡ Gives []) × (jump ≡ 0)
IsMoveFor (moves.Miss name) is_unasked output jump = output ≡ Lacks name
IsMoveFor (moves.Ask number) is_unasked output jump = is_unasked number
IsMoveFor moves.Break is_unasked output jump = output ≡ Breaks

-- An expansion went from the cell with the index `from` to that with the index `to`, and appended its bytes
-- to an output. `Agrees` holds of the values that agree with what is known.
pub record Advances {W First : Type 0} (holds : W → First → List ℕ → Type 0)
    (len capacity : W → ℕ) (Agrees : Values → Type 0) (cells : List Cell) (s : List ℕ) (from to : ℕ)
    (before now : W) : Type 0 where
  pub bytes : List ℕ
  pub puts : Puts holds before bytes now
  pub long : len now ≡ len before + length bytes
  pub room : capacity before ≤ capacity now
  pub forward : from ≤ to
  pub goes_on : (values : Values) → Agrees values
      → expansion cells from s values ≡ after bytes (expansion cells to s values)
  pub writes_on : (values : Values) → Agrees values
      → cells_written cells from s values ≡ bytes ++ cells_written cells to s values

-- an expansion ends at the cell with the index `at` as `e`
abbrev pub EndsAt : (Agrees : Values → Type 0) → List Cell → List ℕ → (at : ℕ) → Expansion → Type 0
EndsAt Agrees cells s at e = (values : Values) → Agrees values → expansion cells at s values ≡ e

-- how a walk from the cell with the index `from` ended, at the cell with the index `to`
abbrev pub Walks : {W First : Type 0} → (W → First → List ℕ → Type 0) → (len capacity : W → ℕ)
    → (is_unasked : ℕ → Type 0) → (Agrees : Values → Type 0) → List Cell → List ℕ → Result (Unit {0}) Stop
    → (from to : ℕ) → (before now : W) → Type 0
Walks holds len capacity is_unasked Agrees cells s (Ok done) from to before now =
    Advances holds len capacity Agrees cells s from to before now × EndsAt Agrees cells s to (Gives [])
Walks holds len capacity is_unasked Agrees cells s (Err (stops.Missing name)) from to before now =
    Advances holds len capacity Agrees cells s from to before now × EndsAt Agrees cells s to (Lacks name)
Walks holds len capacity is_unasked Agrees cells s (Err stops.NotATemplate) from to before now =
    Advances holds len capacity Agrees cells s from to before now × EndsAt Agrees cells s to Breaks
Walks holds len capacity is_unasked Agrees cells s (Err (stops.Asks number)) from to before now =
    Advances holds len capacity Agrees cells s from to before now × is_unasked number
Walks holds len capacity is_unasked Agrees cells s (Err (stops.Full e)) from to before now =
    ((x : List ℕ) × Puts holds before x now)
    × ((values : Values) → Agrees values
    → capacity before < len before + length (cells_written cells from s values))
