use Rattle.std.proofs.Common.{length}
use Rattle.subst_toml.proofs.place.+string_at.Given as goal

abbrev pub decreases-string_at : goal.decreases-string_at
decreases-string_at l = length l.steps.now
