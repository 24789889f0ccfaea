-- The strings so far are kept with the texts of their paths.
use Rattle.std.specs.List.{AllZip}
use Rattle.subst_expander.specs.Documents.{IsKept}
use Rattle.subst_expander.proofs.document.format.with_paths.Given as goal

abbrev pub invariant-loop-path : goal.invariant-loop-path
invariant-loop-path g l = AllZip (IsKept g.P.Display.output) l.yielded l.strings.items
