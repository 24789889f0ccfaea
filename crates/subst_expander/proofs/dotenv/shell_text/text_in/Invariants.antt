-- The text so far comes before that of the bytes left.
use Rattle.std.proofs.Common.{◌≡◌, ◌≤◌, length}
use Rattle.subst_expander.specs.DotenvLine.{before, text_in}
use Rattle.subst_expander.proofs.dotenv.shell_text.text_in.Given as goal

abbrev pub invariant-loop-first : goal.invariant-loop-first
invariant-loop-first l = (before l.text.items (text_in l.quote l.rest) ≡ text_in l.quote l.bytes)
    × (length l.rest ≤ length l.bytes)

abbrev pub decreases-loop-first : goal.decreases-loop-first
decreases-loop-first l = length l.rest
