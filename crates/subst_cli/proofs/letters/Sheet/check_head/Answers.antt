-- A name occurs twice in the head.
use Rattle.std.proofs.Common.{inr}
use Rattle.subst_cli.proofs.LetterLemmas.{refuses, repeated}
use Rattle.subst_cli.proofs.letters.Sheet.check_head.Goals as goal

pub returns-in-Some-clause-bad : goal.returns-in-Some-clause-bad
returns-in-Some-clause-bad c wrong = (
  rw c.refused.ensures (refuses c.args.report.now.worst),
  inr (repeated c.args.letter.now c.in-Ok.rows c.in_ok-head.head.items c.first_repeated.result c.in-Some.index
      c.in-Ok.ensures.ok c.in_ok-head.ensures (rw c.deref.ensures.value at c.first_repeated.ensures) c.in-Some.is),
)
