-- The order of the entries is that of the definition.
use Rattle.std.proofs.Common.{◌≡◌, ◌++◌, reverse, map, ap, ◌∙◌}
use Rattle.subst_expander.specs.Layers.{entry_of}
use Rattle.subst_expander.proofs.LayerLemmas.{ordered_above}
use Rattle.subst_expander.proofs.layers.above.Goals as goal

pub returns : goal.returns
returns c =
    let set = c.args.set.items in
    let lines = c.args.lines.items in
    let environment = c.args.environment.items in
    let all : c.append-2.new.self.items ≡ reverse (lines ++ set) ++ environment =
    cc (c.in_ok-append.ensures.items, c.reverse.ensures.items, c.in_ok-append-2.ensures.items) in
    ap (map entry_of) all ∙ ordered_above entry_of set lines environment
