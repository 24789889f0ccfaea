-- By the names before the index, and the one at it.
use Rattle.std.proofs.Common.{◌+◌, refl}
use Rattle.subst_indexed.proofs.NumberingLemmas.{number_found, number_later}
use Rattle.subst_rows.proofs.columns.index_of.Goals as goal

pub returns-then-eq : goal.returns-then-eq
returns-then-eq c =
    number_found (λ name. name.now) c.args.name.now c.args.names.now c.loop-index.index _
    c.loop-index-test.true c.loop-index.invariant c.if-eq.ensures

pub loop-index-preserved : goal.loop-index-preserved
loop-index-preserved c =
    number_later (λ name. name.now) c.args.name.now c.args.names.now c.loop-index.index
    (c.loop-index.index + 1) _ c.loop-index-test.true refl c.loop-index.invariant c.if-eq.ensures
