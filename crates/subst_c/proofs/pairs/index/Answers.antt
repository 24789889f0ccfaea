-- The next pair sets its name, unless an earlier one has.
use Rattle.std.proofs.Common.{sym, ◌∙◌}
use Rattle.subst_c.proofs.IndexLemmas.{pair_value-take}
use Rattle.subst_c.proofs.pairs.index.Goals as goal

pub loop-pair-preserved : goal.loop-pair-preserved
loop-pair-preserved c = λ name.
    let added = rw (c.loop-pair.invariant name) at (c.in_ok-insert_if_new.ensures name) in
    added ∙ sym (pair_value-take c.args.pairs.now c.loop-pair.pair-index _ name c.loop-pair-test.true)
