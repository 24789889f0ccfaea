-- The value is UTF-8.
use Rattle.std.proofs.Common.{sym}
use Rattle.subst_c.proofs.TextLemmas.{gives_texts}
use Rattle.subst_c.proofs.pairs.TextPairsVariableMap.get.Goals as goal

pub from_utf8_unchecked-requires : goal.from_utf8_unchecked-requires
from_utf8_unchecked-requires c =
    gives_texts c.args.self.now.pairs.pairs.now c.args.self.now.texts c.args.key.now c.in_ok-value.value.now
    (sym c.in_ok-value.ensures.value)
