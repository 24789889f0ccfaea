-- The bytes written, from the first state of the slice.
use Rattle.std.proofs.Common.{refl, ap, ◌∙◌, rules, []}
use Rattle.subst_indexed.specs.Expansion.{Gives}
use Rattle.subst_indexed.proofs.TemplateLemmas.{outcome_of_err}
use Rattle.subst_indexed.proofs.expand.expand_into_slice.Goals as goal

pub returns-in-Ok-clause-expands : goal.returns-in-Ok-clause-expands
returns-in-Ok-clause-expands g c = λ all agrees.
    let appended = c.in-Ok.ensures in
    let holds = appended.puts record { name = _; bytes = c.args.slice.now } [] (refl, refl, refl, λ fits. refl) in
    let outcome = appended.outcome all agrees in (
      appended.bytes,
      outcome.1 ∙ ap Gives outcome.2,
      (holds.1, λ fits. search (rules, holds.0, holds.1, holds.3)),
    )

pub returns-in-Err-clause-expands : goal.returns-in-Err-clause-expands
returns-in-Err-clause-expands g c = λ all agrees.
    outcome_of_err _ _ c.in-Err.stop _ _ (c.in-Err.ensures.outcome all agrees)
