-- The values in the pairs before this one.
use Rattle.std.proofs.Common.{◌≡◌, length, take}
use Rattle.subst_indexed.specs.Slot.{values_of}
use Rattle.subst_c.specs.Pairs.{pair_value}
use Rattle.subst_c.specs.RowValues.{AreValuesOf, bytes_of}
use Rattle.subst_c.proofs.row_values.Names.look_up_each.Given as goal

abbrev pub invariant-loop-index : goal.invariant-loop-index
invariant-loop-index l = record {
  counted : length l.row.values.items ≡ length l.self.list.items;
  found : AreValuesOf (bytes_of l.self.list.items) (pair_value (take l.index l.pairs))
      (values_of l.row.values.items);
}
