-- The templates so far are of the path, if those before were.
use Rattle.std.specs.List.{All}
use Rattle.subst_cli.specs.Templates.{IsTemplateOf}
use Rattle.subst_cli.proofs.templates.add_directory.Given as goal

abbrev pub invariant-loop-name : goal.invariant-loop-name
invariant-loop-name g l = All (IsTemplateOf l.path l.suffix) l.fn.found.items
    → All (IsTemplateOf l.path l.suffix) l.found.items
