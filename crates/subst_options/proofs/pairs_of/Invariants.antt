-- The pairs so far are those of the arguments so far.
use Rattle.std.proofs.Common.{◌≡◌, map, take}
use Rattle.subst_options.specs.Arguments.{pair_in, text_pair}
use Rattle.subst_options.proofs.pairs_of.Given as goal

abbrev pub invariant-loop-argument : goal.invariant-loop-argument
invariant-loop-argument l =
    map text_pair l.pairs.items ≡ map (λ argument. pair_in argument.now)
    (take l.argument-index l.argument-items)
