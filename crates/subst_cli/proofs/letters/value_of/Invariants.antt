-- No entry so far has the name.
use Rattle.std.proofs.Common.{◌≡◌, drop}
use Rattle.subst_expander.specs.Layers.{entries_of, look_up_in}
use Rattle.subst_cli.proofs.letters.value_of.Given as goal

abbrev pub invariant-loop-entry : goal.invariant-loop-entry
invariant-loop-entry l =
    look_up_in (entries_of (drop l.entry-index l.entries)) l.name ≡ look_up_in (entries_of l.entries) l.name
