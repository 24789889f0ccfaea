-- The next name is inserted.
use Rattle.std.proofs.Common.{refl}
use Rattle.subst_c.proofs.RowValuesLemmas.{numbers_more}
use Rattle.subst_c.proofs.row_values.numbers_of.Goals as goal

pub loop-number-preserved : goal.loop-number-preserved
loop-number-preserved c =
    numbers_more c.args.names.now c.loop-number.number _ c.loop-number-test.true c.requires c.loop-number.numbers
    c.insert.new.numbers _ c.loop-number.invariant refl c.in_ok-insert.ensures
