-- The entries so far are escaped.
use Rattle.std.proofs.Common.{◌≡◌, map, take}
use Rattle.subst_expander.specs.Layers.{entries_of, escaped}
use Rattle.subst_expander.proofs.layers.with_escaped_values.Given as goal

abbrev pub invariant-loop-entry : goal.invariant-loop-entry
invariant-loop-entry l =
    entries_of l.all.items ≡ map (escaped l.escape) (entries_of (take l.entry-index l.fn.entries.items))
