-- The files so far were read.
use Rattle.std.proofs.Common.{take}
use Rattle.subst_cli.proofs.ExpandedLemmas.{HasRead}
use Rattle.subst_cli.specs.Status.{status_of}
use Rattle.subst_cli.proofs.one_output.sources.Given as goal

abbrev pub invariant-loop-file : goal.invariant-loop-file
invariant-loop-file g l = HasRead (status_of l.fn.report.worst) (g.F.Files.history l.fn.files)
    (take l.file-index l.options.files.items) l.sources.items (g.F.Files.history l.files) l.report.worst
