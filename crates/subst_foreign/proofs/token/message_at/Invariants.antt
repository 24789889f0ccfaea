-- The message is read up to the index, with this many braces open.
use Rattle.std.proofs.Common.{take, drop}
use Rattle.subst_foreign.proofs.TokenLemmas.{IsInMessage}
use Rattle.subst_foreign.proofs.token.message_at.Given as goal

abbrev pub invariant-loop-at : goal.invariant-loop-at
invariant-loop-at l = IsInMessage l.forms l.open (take l.at l.text) (drop l.at l.text) l.text
