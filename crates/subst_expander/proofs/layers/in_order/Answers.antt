-- The order of the entries is that of the definition.
use Rattle.std.proofs.Common.{◌≡◌, ◌++◌, reverse, map, ap, ◌∙◌}
use Rattle.subst_expander.specs.Layers.{entry_of}
use Rattle.subst_expander.proofs.LayerLemmas.{ordered}
use Rattle.subst_expander.proofs.layers.in_order.Goals as goal

pub returns : goal.returns
returns c =
    let above = c.args.above.items in
    let dotenv = c.args.dotenv.items in
    let defaults = c.args.defaults.items in
    let all : c.append-2.new.self.items ≡ above ++ reverse dotenv ++ reverse defaults =
    cc (
      c.reverse.ensures.items,
      c.in_ok-append.ensures.items,
      c.reverse-2.ensures.items,
      c.in_ok-append-2.ensures.items,
    ) in
    ap (map entry_of) all ∙ ordered entry_of above dotenv defaults
