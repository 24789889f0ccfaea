use Rattle.std.proofs.Common.{length}
use Rattle.subst_toml.proofs.place.spelling.after_spelling.Given as goal

abbrev pub decreases-pieces : goal.decreases-pieces
decreases-pieces l = length l.rest
