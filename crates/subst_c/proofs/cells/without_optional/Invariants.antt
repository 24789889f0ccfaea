-- The bytes so far are those of the source so far.
use Rattle.std.proofs.Common.{◌≡◌, take}
use Rattle.subst_c.specs.Cells.{without_optional}
use Rattle.subst_c.proofs.cells.without_optional.Given as goal

abbrev pub invariant-loop-byte : goal.invariant-loop-byte
invariant-loop-byte l = l.other.items ≡ without_optional (take l.byte-index l.source)
