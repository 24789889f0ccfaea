-- The columns of the names before the index.
use Rattle.std.proofs.Common.{◌≡◌, take}
use Rattle.subst_rows.specs.Columns.{bytes_of, columns_in}
use Rattle.subst_rows.proofs.columns.columns_of.Given as goal

abbrev pub invariant-loop-name : goal.invariant-loop-name
invariant-loop-name l = l.columns.items ≡ columns_in (bytes_of l.head) (bytes_of (take l.name-index l.names))
