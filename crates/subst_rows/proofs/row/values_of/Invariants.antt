-- The values with numbers below this one.
use Rattle.std.proofs.Common.{◌≡◌, ◌<◌, ℕ, length}
use Rattle.subst_indexed.specs.Slot.{values_of}
use Rattle.subst_rows.specs.Row.{value_in}
use Rattle.subst_rows.proofs.row.values_of.Given as goal

abbrev pub invariant-loop-number : goal.invariant-loop-number
invariant-loop-number g l = record {
  counted : length l.values.items ≡ l.number;
  found : (number : ℕ) → number < l.number
      → values_of l.values.items number ≡ value_in l.sources (g.R.Row.cells l.row) number;
}
