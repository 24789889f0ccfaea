-- Printable bytes are text, so they are unchanged.
use Rattle.subst_expander.proofs.MessageLemmas.{printable-utf8}
use Rattle.subst_expander.proofs.terminal.printable.Goals as goal

pub returns-then-are_printable : goal.returns-then-are_printable
returns-then-are_printable c plain = c.in_ok-text.ensures.ok (printable-utf8 c.args.bytes.now plain)
