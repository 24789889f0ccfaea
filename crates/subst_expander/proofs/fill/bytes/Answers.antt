-- The result is that of the call, under the look-up of the values.
use Rattle.std.proofs.Common.{refl}
use Rattle.std.specs.Prelude.{Some, string_bytes}
use Rattle.subst.proofs.Calling.{answer_as_read}
use Rattle.subst.specs.Calls.Variables.{missing_variable}
use Rattle.subst.specs.Fault.{NoSuchVariable}
use Rattle.subst.specs.Language.Answer.{Gives, Refuses}
use Rattle.subst_expander.specs.Fill.{look_up_of}
use Rattle.subst_expander.proofs.FillLemmas.{all_listed, no_template}
use Rattle.subst_expander.proofs.fill.bytes.Goals as goal

pub returns-in-Ok-clause-gives : goal.returns-in-Ok-clause-gives
returns-in-Ok-clause-gives c =
    answer_as_read _ _ (Some (Gives _)) (c.in-Ok.ensures.answer (λ v. v) (λ v. refl))

pub returns-in_ok-missing-in-NoSuchVariable-clause-refuses :
    goal.returns-in_ok-missing-in-NoSuchVariable-clause-refuses
returns-in_ok-missing-in-NoSuchVariable-clause-refuses c =
    let look = look_up_of c.args.values.now in
    let e = c.in-NoSuchVariable.field-0 in
    let name = string_bytes e.name in
    let answer = answer_as_read c.args.source.now look (Some (Refuses (NoSuchVariable e.position name)))
    (rw c.in-NoSuchVariable.is at (c.in-Err.ensures.answer (λ v. v) (λ v. refl))) in
    all_listed missing_variable c.args.source.now look e.position name
    c.in_ok-missing-in-NoSuchVariable.missing.items answer
    (c.in_ok-missing-in-NoSuchVariable.ensures look (λ name. refl))

pub returns-in_default-clause-refuses : goal.returns-in_default-clause-refuses
returns-in_default-clause-refuses c =
    no_template c.args.source.now (look_up_of c.args.values.now) c.in-Err.e _ c.in_default.not-OutOfMemory
    c.in_default.not-NoSuchVariable (answer_as_read _ _ _ (c.in-Err.ensures.answer (λ v. v) (λ v. refl)))
    c.source_range-range.ensures.range
