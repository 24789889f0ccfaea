-- The half is that of the rest, of which the first `to_skip` bytes are skipped.
use Rattle.std.proofs.Common.{◌≡◌, drop}
use Rattle.subst_expander.specs.Mistakes.{lone_at}
use Rattle.subst_expander.proofs.document.mistake.lone_surrogate.Given as goal

abbrev pub invariant-loop-at : goal.invariant-loop-at
invariant-loop-at l = lone_at 0 1 l.string ≡ lone_at l.at l.to_skip (drop l.at l.string)
