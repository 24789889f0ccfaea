-- All calls so far read files.
use Rattle.subst_cli.specs.Files.{OnlyReads}
use Rattle.subst_cli.proofs.run.variable_files.Given as goal

abbrev pub invariant-loop-name : goal.invariant-loop-name
invariant-loop-name g l = OnlyReads (g.F.Files.history l.fn.files) (g.F.Files.history l.files)
