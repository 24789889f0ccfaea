-- Each name has its value.
use Rattle.std.proofs.Common.{map, ap, ◌∙◌}
use Rattle.std.proofs.lemmas.List.{take_all}
use Rattle.subst_c.specs.Pairs.{pair_value}
use Rattle.subst_c.proofs.RowValuesLemmas.{each_searched}
use Rattle.subst_c.proofs.row_values.search_each.Goals as goal

pub returns : goal.returns
returns c =
    let look = pair_value c.args.pairs.now in
    each_searched c.args.names.now c.loop-name.values.items look
    (c.loop-name.invariant ∙ ap (map (λ name. look name.now))
    (take_all c.loop-name.name-index c.args.names.now c.loop-name-test.false))
