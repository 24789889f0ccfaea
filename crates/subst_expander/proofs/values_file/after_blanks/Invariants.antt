-- The bytes skipped so far are blanks.
use Rattle.std.proofs.Common.{◌≡◌, length}
use Rattle.subst_expander.specs.ValuesFile.{after_blanks}
use Rattle.subst_expander.proofs.values_file.after_blanks.Given as goal

abbrev pub invariant-loop-first : goal.invariant-loop-first
invariant-loop-first l = after_blanks l.line ≡ after_blanks l.rest

abbrev pub decreases-loop-first : goal.decreases-loop-first
decreases-loop-first l = length l.rest
