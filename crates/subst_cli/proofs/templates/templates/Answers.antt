-- Sorted, the templates are the same ones.
use Rattle.std.proofs.lemmas.List.Sorted.{All-permutation}
use Rattle.subst_cli.specs.Templates.{IsTemplateOf}
use Rattle.subst_cli.proofs.templates.templates.Goals as goal

pub returns : goal.returns
returns g c = All-permutation (IsTemplateOf c.args.path.now c.args.suffix.now) c.loop.found.items
    c.sort_unstable_by.new.self.items c.sort_unstable_by.ensures.permutation c.loop.invariant
