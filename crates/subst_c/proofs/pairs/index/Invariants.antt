-- The index has the variables of the pairs so far.
use Rattle.std.proofs.Common.{◌≡◌, ℕ, List, take}
use Rattle.subst_c.specs.Index.{indexed_value}
use Rattle.subst_c.specs.Pairs.{pair_value}
use Rattle.subst_c.proofs.pairs.index.Given as goal

abbrev pub invariant-loop-pair : goal.invariant-loop-pair
invariant-loop-pair l =
    (name : List ℕ) → indexed_value l.index name ≡ pair_value (take l.pair-index l.pairs) name
