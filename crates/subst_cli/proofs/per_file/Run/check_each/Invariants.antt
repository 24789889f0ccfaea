-- The templates so far are checked.
use Rattle.std.proofs.Common.{List, take}
use Rattle.subst_cli.proofs.RunLemmas.{HasChecked}
use Rattle.subst_expander.specs.Layers.{AreVariablesOf, Entry}
use Rattle.subst_cli.specs.Status.{status_of}
use Rattle.subst_cli.proofs.per_file.Run.check_each.Given as goal

abbrev pub invariant-loop-template : goal.invariant-loop-template
invariant-loop-template g l = (entries : List Entry) → AreVariablesOf l.self.expander.variables entries
    → HasChecked l.self.expander.formats l.self.expander.placeholders.now entries (status_of l.fn.report.worst)
    (g.F.Files.history l.fn.files) l.self.options.now.refuses_defaults (take l.template-index l.templates)
    (g.F.Files.history l.files) l.report.worst
