-- All calls so far read files.
use Rattle.subst_cli.specs.Files.{OnlyReads}
use Rattle.subst_cli.proofs.run.sources.Given as goal

abbrev pub invariant-loop-path : goal.invariant-loop-path
invariant-loop-path g l = OnlyReads (g.F.Files.history l.fn.files) (g.F.Files.history l.files)
