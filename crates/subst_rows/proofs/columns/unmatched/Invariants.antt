-- The indices found so far, and those of the names from this one on, are all indices.
use Rattle.std.proofs.Common.{◌≡◌, ◌++◌, drop}
use Rattle.subst_rows.specs.Columns.{bytes_of, unmatched_from}
use Rattle.subst_rows.proofs.columns.unmatched.Given as goal

abbrev pub invariant-loop-index : goal.invariant-loop-index
invariant-loop-index l =
    l.indices.items ++ unmatched_from (bytes_of l.others) l.index (bytes_of (drop l.index l.names))
    ≡ unmatched_from (bytes_of l.others) 0 (bytes_of l.names)
