-- No name before this index is repeated.
use Rattle.std.proofs.Common.{◌<◌, ℕ}
use Rattle.subst_rows.specs.Columns.{IsRepeated, bytes_of}
use Rattle.subst_rows.proofs.columns.first_repeated.Given as goal

abbrev pub invariant-loop-index : goal.invariant-loop-index
invariant-loop-index l = (index : ℕ) → index < l.index → IsRepeated (bytes_of l.head) index → ⊥
