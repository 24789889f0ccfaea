-- The record of an item is written after those of the items before it.
use Rattle.std.proofs.Common.{arith}
use Rattle.subst_c.proofs.BufferLemmas.{one_more_put}
use Rattle.subst_c.proofs.variables.deliver.Goals as goal

pub loop-i-preserved : goal.loop-i-preserved
loop-i-preserved g c =
    one_more_put g.T.Recorded.recorded c.args.list.now _ c.loop-i.buffer c.loop-i.i
    c.index-list-i.result c.record.result c.loop-i-test.true (omega arith) c.index-list-i.is c.record.ensures
    c.loop-i.invariant
