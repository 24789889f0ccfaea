-- The cells before the index.
use Rattle.std.proofs.Common.{◌≡◌, take}
use Rattle.csv.specs.Records.{fields_of}
use Rattle.subst_rows.specs.Columns.{bytes_of}
use Rattle.subst_rows.proofs.table.cells_of.Given as goal

abbrev pub invariant-loop-index : goal.invariant-loop-index
invariant-loop-index l = bytes_of l.cells.items ≡ take l.index (fields_of l.«record»)
