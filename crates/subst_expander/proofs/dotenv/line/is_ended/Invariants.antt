-- The bytes so far are blanks, and none of them precedes a comment.
use Rattle.std.proofs.Common.{◌≡◌, length}
use Rattle.subst_expander.specs.DotenvLine.{is_ended}
use Rattle.subst_expander.proofs.dotenv.line.is_ended.Given as goal

abbrev pub invariant-loop-first : goal.invariant-loop-first
invariant-loop-first l = is_ended l.line ≡ is_ended l.rest

abbrev pub decreases-loop-first : goal.decreases-loop-first
decreases-loop-first l = length l.rest
