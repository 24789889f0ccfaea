-- The templates so far are replaced.
use Rattle.std.proofs.Common.{List, take}
use Rattle.subst_cli.proofs.RunLemmas.{HasReplaced}
use Rattle.subst_expander.specs.Layers.{AreVariablesOf, Entry}
use Rattle.subst_cli.specs.Status.{status_of}
use Rattle.subst_cli.proofs.per_file.Run.replace_each.Given as goal

abbrev pub invariant-loop-template : goal.invariant-loop-template
invariant-loop-template g l = (entries : List Entry) → AreVariablesOf l.self.expander.variables entries
    → HasReplaced l.self.expander.formats l.self.expander.placeholders.now entries (status_of l.fn.report.worst)
    (g.F.Files.history l.fn.files) (take l.template-index l.templates) (g.F.Files.history l.files)
    l.report.worst l.done.keys
