-- Expansion in steps.
use Rattle.std.specs.Prelude.{◌≡◌, ℕ, zero, suc, ◌+◌, ◌^◌, ◌≤◌, List, [], ◌++◌, take, drop, length, Result, Ok, Err}
use Rattle.subst_indexed.specs.Expansion.{Expansion, Gives, Lacks, Breaks, Values, after}
use Rattle.subst_indexed.specs.Template.{part_cells, parts_expansion, parts_written, template_expansion, template_written}
use Rattle.subst_indexed.specs.declared.cell.Cell.{Cell}
use Rattle.subst_indexed.specs.declared.step.Cursor.{Cursor}
use Rattle.subst_indexed.specs.declared.walk.Stop.{Stop}
use Rattle.subst_indexed.specs.declared.walk.Stop.TheVariants.{Full, Missing, Asks, NotATemplate}

-- the expansion of a template from the part with the index `at` on; the check sum counts at the beginning
abbrev pub rest_expansion : List Cell → (at : ℕ) → List ℕ → Values → Expansion
rest_expansion cells zero s values = template_expansion cells s values
rest_expansion cells (suc at) s values = parts_expansion (part_cells cells (length s)) (suc at) s values

-- the bytes that it writes before its expansion ends
abbrev pub rest_written : List Cell → (at : ℕ) → List ℕ → Values → List ℕ
rest_written cells zero s values = template_written cells s values
rest_written cells (suc at) s values = parts_written (part_cells cells (length s)) (suc at) s values

-- An expansion went from one cursor to another, and wrote its bytes to a slice. The slice had the bytes
-- `before`, and now has the bytes `now`. `Agrees` holds of the values that agree with the known ones.
pub record Steps (Agrees : Values → Type 0) (cells : List Cell) (s : List ℕ) (old new : Cursor)
    (before now : List ℕ) : Type 0 where
  pub bytes : List ℕ
  pub counted : new.written ≡ old.written + length bytes
  pub put : new.written ≤ length before → now ≡ take old.written before ++ bytes ++ drop new.written before
  pub continues : (values : Values) → Agrees values
      → rest_expansion cells old.index s values ≡ after bytes (rest_expansion cells new.index s values)

-- the rest of an expansion from a cursor on is e
abbrev pub IsRest : (Agrees : Values → Type 0) → List Cell → List ℕ → Cursor → Expansion → Type 0
IsRest Agrees cells s cursor e = (values : Values) → Agrees values → rest_expansion cells cursor.index s values ≡ e

-- A step ended: at the end of the template, at a missing variable, at a value that hasn't been asked for, at
-- damage, or since the length overflows.
abbrev pub StepsTo : (is_unasked : ℕ → Type 0) → (Agrees : Values → Type 0) → List Cell → List ℕ
    → Result (Unit {0}) Stop → (old new : Cursor) → (before now : List ℕ) → Type 0
StepsTo is_unasked Agrees cells s (Ok done) old new before now =
    Steps Agrees cells s old new before now × IsRest Agrees cells s new (Gives [])
StepsTo is_unasked Agrees cells s (Err (Missing name)) old new before now =
    Steps Agrees cells s old new before now × IsRest Agrees cells s new (Lacks name)
StepsTo is_unasked Agrees cells s (Err NotATemplate) old new before now =
    Steps Agrees cells s old new before now × IsRest Agrees cells s new Breaks
StepsTo is_unasked Agrees cells s (Err (Asks number)) old new before now =
    Steps Agrees cells s old new before now × is_unasked number
StepsTo is_unasked Agrees cells s (Err (Full failed)) old new before now =
    (values : Values) → Agrees values
    → 2 ^ 64 ≤ old.written + length (rest_written cells old.index s values)
