-- The answer of the template is that of the text.
use Rattle.std.proofs.Common.{Some, refl, subst, sym, string_bytes}
use Rattle.std.proofs.lemmas.Result.{err_from_is_err_and}
use Rattle.std.specs.Option.{option_map}
use Rattle.subst.proofs.Calling.{answer_as_read}
use Rattle.subst.specs.ErrorFault.{error_fault}
use Rattle.subst.specs.Language.Answer.{Gives, Refuses}
use Rattle.subst.specs.Question.{by_question}
use Rattle.subst.specs.Template.{IsTemplate}
use Rattle.subst_expander.proofs.DotenvLemmas.{answered, missing_stated}
use Rattle.subst_expander.proofs.dotenv.value.filled_in.Goals as goal
use Rattle.subst_expander.specs.Dotenv.{look_up_by, shell}
use Rattle.subst_foreign.specs.declared.forms.Missing.TheVariants.{Nothing}

pub returns-in_err-substitute-clause-fault : goal.returns-in_err-substitute-clause-fault
returns-in_err-substitute-clause-fault c =
    let look = look_up_by c.args.scope.now in
    let text = c.args.text.now in
    let source = c.as_str.result.now in
    let e = c.in_err-substitute.field-0.0 in
    let is =
    subst (IsTemplate shell Nothing text) (sym c.as_str.ensures.value) c.in_ok-template.ensures.template in
    let stated =
    missing_stated look text source e is
    (answer_as_read source (by_question look) (option_map Refuses (error_fault e))
    (c.in_err-substitute.ensures.answer (λ v. v) (λ v. refl))) in
    let given =
    err_from_is_err_and c.from_residual-in_err-substitute.result c.from_residual-in_err-substitute.ensures.1 in
    rw (given.1, given.2) stated

pub returns-clause-value : goal.returns-clause-value
returns-clause-value c =
    let look = look_up_by c.args.scope.now in
    let text = c.args.text.now in
    let source = c.as_str.result.now in
    let is =
    subst (IsTemplate shell Nothing text) (sym c.as_str.ensures.value) c.in_ok-template.ensures.template in
    let answer = Gives (string_bytes c.in_ok-substitute.field-0) in
    answered look text source answer is
    (answer_as_read source (by_question look) (Some answer)
    (c.in_ok-substitute.ensures.answer (λ v. v) (λ v. refl)))
