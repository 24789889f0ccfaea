-- The list has the entries of the pairs so far.
use Rattle.std.proofs.Common.{◌≡◌, take}
use Rattle.subst_expander.specs.Layers.{entries_of, entries_of_pairs}
use Rattle.subst_expander.proofs.layers.from_pairs.Given as goal

abbrev pub invariant-loop-name : goal.invariant-loop-name
invariant-loop-name l = entries_of l.entries.items ≡ entries_of_pairs (take l.name-index l.pairs)
