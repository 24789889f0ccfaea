-- None of the names before the index has these bytes.
use Rattle.std.proofs.Common.{◌≡◌, take, None}
use Rattle.subst_indexed.specs.Numbering.{number_of}
use Rattle.subst_rows.specs.Columns.{bytes_of}
use Rattle.subst_rows.proofs.columns.index_of.Given as goal

abbrev pub invariant-loop-index : goal.invariant-loop-index
invariant-loop-index l = number_of (bytes_of (take l.index l.names)) l.name ≡ None
