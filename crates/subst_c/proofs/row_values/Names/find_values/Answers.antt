-- By the search.
use Rattle.std.proofs.Common.{OnOk, subst}
use Rattle.subst_indexed.specs.Slot.{values_of}
use Rattle.subst_c.specs.Pairs.{pair_value}
use Rattle.subst_c.specs.RowValues.{AreValuesOf, bytes_of}
use Rattle.subst_c.proofs.row_values.Names.find_values.Goals as goal

pub returns-in-None : goal.returns-in-None
returns-in-None c =
    subst
    (λ names. OnOk c.search_each.result (AreValuesOf (bytes_of names) (pair_value c.args.pairs.now)
    (values_of c.search_each.new.values.items))) c.deref.ensures.value c.search_each.ensures
