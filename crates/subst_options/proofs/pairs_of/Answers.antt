-- The pairs are those of all arguments.
use Rattle.subst_options.proofs.ArgumentLemmas.{all_pairs}
use Rattle.subst_options.specs.Arguments.{text_pair}
use Rattle.subst_options.proofs.pairs_of.Goals as goal

pub returns : goal.returns
returns c =
    all_pairs text_pair c.in_ok-arguments.arguments.items c.deref-argument-items.result.now
    c.loop-argument.argument-index c.loop-argument.pairs.items _ c.deref-argument-items.ensures.value
    c.loop-argument-test.false c.loop-argument.invariant c.in_ok-arguments.ensures
