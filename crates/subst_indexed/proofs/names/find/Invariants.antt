-- None of the names before the index has these bytes.
use Rattle.std.proofs.Common.{◌≡◌, take, None}
use Rattle.subst_indexed.specs.Names.{name_bytes}
use Rattle.subst_indexed.specs.Numbering.{number_of}
use Rattle.subst_indexed.proofs.names.find.Given as goal

abbrev pub invariant-loop-index : goal.invariant-loop-index
invariant-loop-index l = number_of (name_bytes (take l.index l.names)) l.bytes ≡ None
