-- The bytes removed so far are blanks.
use Rattle.std.proofs.Common.{◌≡◌, length}
use Rattle.subst_expander.specs.DotenvLine.{trimmed}
use Rattle.subst_expander.proofs.dotenv.line.trimmed.Given as goal

abbrev pub invariant-loop-last : goal.invariant-loop-last
invariant-loop-last l = trimmed l.bytes ≡ trimmed l.rest

abbrev pub decreases-loop-last : goal.decreases-loop-last
decreases-loop-last l = length l.rest
