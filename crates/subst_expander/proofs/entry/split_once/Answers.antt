-- If no byte is the separator, the position is the length.
use Rattle.std.proofs.Common.{◌==◌, arith}
use Rattle.subst_expander.proofs.EntryLemmas.{place_within}
use Rattle.subst_expander.proofs.entry.split_once.Goals as goal

pub returns-else-at-bytes : goal.returns-else-at-bytes
returns-else-at-bytes c = omega (arith, place_within (λ b. b == c.args.separator) c.args.bytes.now)
