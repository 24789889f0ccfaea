-- A string has the output of its expansion, or a fault.
use Rattle.std.proofs.Common.{subst, arith}
use Rattle.subst_expander.specs.Faults.{IsFaulty}
use Rattle.subst_expander.specs.Fill.{GivesFor}
use Rattle.subst_expander.proofs.document.filler.StringFillerFill.fill.Goals as goal

pub returns-in-Ok-clause-answer : goal.returns-in-Ok-clause-answer
returns-in-Ok-clause-answer c = (
  rw c.in-Some.is tt,
  λ entries from.
      rw c.in_ok-string_of-in-Ok.ensures (
      subst (λ text. GivesFor c.args.self.now.placeholders.now entries text c.in-Ok.output.items) (cc)
      (rw c.in-Ok.is at (c.in_ok-output.ensures.gives entries (rw c.in-Some.is at from)))),
)

pub returns-clause-answer : goal.returns-clause-answer
returns-clause-answer c = rw c.refused.ensures (λ entries from.
    let are = rw c.in-Err.is at (c.in_ok-output.ensures.refused entries (rw c.in-Some.is at from)) in
    subst (IsFaulty c.args.self.now.placeholders.now entries) (cc) (c.in-Err.field-0.items, are))

pub returns-clause-range : goal.returns-clause-range
returns-clause-range c = rw c.refused.ensures (omega arith)
