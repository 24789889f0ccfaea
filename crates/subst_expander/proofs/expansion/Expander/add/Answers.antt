-- The output of the source is appended, or the source is refused.
use Rattle.std.proofs.Common.{inl, inr, refl}
use Rattle.std.proofs.lemmas.Result.{on_ok_weaker}
use Rattle.subst_expander.proofs.expansion.Expander.add.Goals as goal

pub returns-then-is_its_own_output : goal.returns-then-is_its_own_output
returns-then-is_its_own_output c = λ entries are.
    on_ok_weaker c.append.result (λ is. inl (
      c.args.source.bytes.items,
      c.is_its_own_output.ensures.itself c.if-is_its_own_output.true entries,
      is,
      refl,
    )) c.append.ensures

pub returns-in-Ok : goal.returns-in-Ok
returns-in-Ok c = λ entries are.
    on_ok_weaker c.append-in-Ok.result (λ is. inl (
      c.in-Ok.output.items,
      rw c.in-Ok.is at (c.in_ok-output.ensures.gives entries are),
      is,
      refl,
    )) c.append-in-Ok.ensures

pub returns-in_ok-push-in-Err : goal.returns-in_ok-push-in-Err
returns-in_ok-push-in-Err c = λ entries are.
    inr (
      record { source = c.args.source; faults = c.in-Err.faults },
      (refl, rw c.in-Err.is at (c.in_ok-output.ensures.refused entries are)),
      c.in_ok-push-in-Err.ensures.items,
    )
