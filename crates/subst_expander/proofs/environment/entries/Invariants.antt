-- The list has the variables of the entries so far.
use Rattle.std.proofs.Common.{◌≡◌, take, map}
use Rattle.std.specs.Prelude.{vec_items}
use Rattle.subst_expander.specs.Layers.{entries_of, environment_of}
use Rattle.subst_expander.proofs.environment.entries.Given as goal

abbrev pub invariant-loop-bytes : goal.invariant-loop-bytes
invariant-loop-bytes l =
    entries_of l.entries.items ≡ environment_of (map vec_items (take l.bytes-index l.raw))
