-- The templates so far are of the path.
use Rattle.std.specs.List.{All}
use Rattle.subst_cli.specs.Templates.{IsTemplateOf}
use Rattle.subst_cli.proofs.templates.templates.Given as goal

abbrev pub invariant-loop : goal.invariant-loop
invariant-loop g l = All (IsTemplateOf l.path l.suffix) l.found.items
