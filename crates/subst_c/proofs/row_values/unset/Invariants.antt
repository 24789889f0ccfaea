-- The values so far, none of which is set.
use Rattle.std.proofs.Common.{◌≡◌, ℕ, None, length}
use Rattle.subst_indexed.specs.Slot.{values_of}
use Rattle.subst_c.proofs.row_values.unset.Given as goal

abbrev pub invariant-loop : goal.invariant-loop
invariant-loop l = record {
  counted : length l.values.items ≡ l.counter;
  unset : (number : ℕ) → values_of l.values.items number ≡ None;
}
