-- The map has the variables of the entries so far.
use Rattle.std.proofs.Common.{◌≡◌, ℕ, List, take}
use Rattle.subst_filter_lib.specs.Arguments.{value_under}
use Rattle.subst_expander.specs.Layers.{entries_of, has_unreadable, is_unreadable, look_up_in}
use Rattle.subst_expander.proofs.layers.Variables.of.Given as goal

abbrev pub invariant-loop-entry : goal.invariant-loop-entry
invariant-loop-entry l = (name : List ℕ)
    → (value_under l.variables.values name ≡ look_up_in (entries_of (take l.entry-index l.entries)) name)
    × (has_unreadable l.variables name ≡ is_unreadable (entries_of (take l.entry-index l.entries)) name)
