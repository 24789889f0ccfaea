-- All calls so far read files.
use Rattle.subst_cli.specs.Files.{OnlyReads}
use Rattle.subst_cli.proofs.run.listing.Given as goal

abbrev pub invariant-loop-file : goal.invariant-loop-file
invariant-loop-file g l = OnlyReads (g.F.Files.history l.fn.files) (g.F.Files.history l.files)
