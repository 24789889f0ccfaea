-- The entries so far are copied.
use Rattle.std.proofs.Common.{◌≡◌, map, take}
use Rattle.subst_expander.specs.Layers.{entries_of, escaped}
use Rattle.subst_expander.specs.declared.kinds.Escape.TheVariants.{Nothing}
use Rattle.subst_expander.proofs.layers.copied.Given as goal

abbrev pub invariant-loop-entry : goal.invariant-loop-entry
invariant-loop-entry l =
    entries_of l.all.items ≡ map (escaped Nothing) (entries_of (take l.entry-index l.entries))
