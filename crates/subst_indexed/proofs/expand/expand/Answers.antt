-- By the bytes that were appended, which an error cuts off again.
use Rattle.std.proofs.Common.{refl, ap, ◌∙◌}
use Rattle.std.proofs.Math.Seq.{take-append_seam}
use Rattle.subst_indexed.specs.Expansion.{Gives}
use Rattle.subst_indexed.proofs.TemplateLemmas.{outcome_of_err}
use Rattle.subst_indexed.proofs.expand.expand.Goals as goal

pub returns-in-Ok-clause-expands : goal.returns-in-Ok-clause-expands
returns-in-Ok-clause-expands g c = λ all agrees.
    let appended = c.in-Ok.ensures in
    let outcome = appended.outcome all agrees in
    (appended.bytes, outcome.1 ∙ ap Gives outcome.2, appended.puts tt c.args.output.now.items refl)

pub returns-in-Err-clause-expands : goal.returns-in-Err-clause-expands
returns-in-Err-clause-expands g c = λ all agrees.
    outcome_of_err _ _ c.in-Err.stop _ _ (c.in-Err.ensures.outcome all agrees)

pub returns-in-Err-clause-kept : goal.returns-in-Err-clause-kept
returns-in-Err-clause-kept g c =
    let appended = c.in-Err.ensures in
    c.truncate.ensures.items
    ∙ rw (appended.puts tt c.args.output.now.items refl, c.len-len.ensures, c.args.output.now.ok.0)
    (take-append_seam c.args.output.now.items appended.bytes)
