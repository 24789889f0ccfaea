-- The map has the numbers of the names before this one.
use Rattle.std.proofs.Common.{take}
use Rattle.subst_indexed.specs.Names.{HasNumbers}
use Rattle.subst_c.specs.RowValues.{bytes_of}
use Rattle.subst_c.proofs.row_values.numbers_of.Given as goal

abbrev pub invariant-loop-number : goal.invariant-loop-number
invariant-loop-number l = HasNumbers l.numbers (bytes_of (take l.number l.names))
