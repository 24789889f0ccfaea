-- The values of the variables so far are UTF-8.
use Rattle.std.proofs.Common.{◌≡◌, ◌++◌, List}
use Rattle.std.specs.List.{All}
use Rattle.std.specs.Vec.Iter.{into_iter_items}
use Rattle.subst_expander.specs.Layers.{AreVariablesOf, Entry, IsUnreadable}
use Rattle.subst_expander.proofs.dotenv.value.unreadable_in.Given as goal

abbrev pub invariant-loop-variable : goal.invariant-loop-variable
invariant-loop-variable l = record {
  all : l.fn.variables.items ≡ l.yielded ++ into_iter_items l.variable-iterator;
  readable : (above : List Entry) → AreVariablesOf l.above above
      → All (λ it. ¬ (IsUnreadable above it.name.now)) l.yielded;
}
