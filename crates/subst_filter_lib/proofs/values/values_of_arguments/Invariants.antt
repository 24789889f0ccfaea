-- The map has the variables of the arguments so far.
use Rattle.std.proofs.Common.{◌≡◌, ℕ, List, take}
use Rattle.subst_filter_lib.specs.Arguments.{last_value, value_under}
use Rattle.subst_filter_lib.proofs.values.values_of_arguments.Given as goal

abbrev pub invariant-loop-argument : goal.invariant-loop-argument
invariant-loop-argument l =
    (name : List ℕ) → value_under l.values name ≡ last_value (take l.argument-index l.arguments) name
