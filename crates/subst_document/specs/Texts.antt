-- A bound on the end of a fault's range. Calls that fill in trees state the bound for their errors.
use Rattle.std.specs.Prelude.{◌^◌, ◌<◌, Some}
use Rattle.subst_error.specs.Fault.{Fault}
use Rattle.subst_error.specs.Range.{range_of}

-- the end of the fault's range fits in a `usize`, as `source_range` requires
abbrev pub HasRange : Fault → Type 0
HasRange f = (range_of (Some f)).end < 2 ^ 64
