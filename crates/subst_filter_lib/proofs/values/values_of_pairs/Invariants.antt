-- The map has the variables of the pairs so far.
use Rattle.std.proofs.Common.{◌≡◌, ℕ, List, take}
use Rattle.subst.specs.Calls.Maps.{first_value}
use Rattle.subst_filter_lib.specs.Arguments.{value_under}
use Rattle.subst_filter_lib.proofs.values.values_of_pairs.Given as goal

abbrev pub invariant-loop-name : goal.invariant-loop-name
invariant-loop-name l =
    (name : List ℕ) → value_under l.values name ≡ first_value (take l.name-index l.pairs) name
