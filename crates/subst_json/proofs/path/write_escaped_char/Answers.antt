-- A character that isn't escaped is written unchanged.
use Rattle.std.proofs.Common.{arith}
use Rattle.subst_json.proofs.PointerLemmas.{escaped-char}
use Rattle.subst_json.proofs.path.write_escaped_char.Goals as goal

pub returns-in_default : goal.returns-in_default
returns-in_default g c = rw (escaped-char c.args.c (omega arith) (omega arith)) c.write_char.ensures.writes
