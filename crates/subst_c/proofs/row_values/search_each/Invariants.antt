-- The values of the names before this one.
use Rattle.std.proofs.Common.{◌≡◌, map, option_map, take}
use Rattle.subst_c.specs.Pairs.{pair_value}
use Rattle.subst_c.proofs.row_values.search_each.Given as goal

abbrev pub invariant-loop-name : goal.invariant-loop-name
invariant-loop-name l =
    map (λ value. option_map (λ bytes. bytes.now) value) l.values.items
    ≡ map (λ name. pair_value l.pairs name.now) (take l.name-index l.names)
