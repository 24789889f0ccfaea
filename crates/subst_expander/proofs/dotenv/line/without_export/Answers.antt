-- The text after the blanks is shorter.
use Rattle.std.proofs.Common.{arith}
use Rattle.std.proofs.lemmas.Grind.{common_steps}
use Rattle.subst_expander.proofs.DotenvLineLemmas.{after_blanks_within}
use Rattle.subst_expander.proofs.dotenv.line.without_export.Goals as goal

pub returns-then-begins_blank-clause-shorter : goal.returns-then-begins_blank-clause-shorter
returns-then-begins_blank-clause-shorter c =
    grind (
      arith,
      common_steps,
      after_blanks_within c.in-Some.after.now,
      c.in-Some.ensures.cases,
      c.after_blanks.ensures,
    )
