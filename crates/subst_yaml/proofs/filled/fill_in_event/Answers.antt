-- The fault is that of the only string of the value.
use Rattle.std.proofs.lemmas.Option.{IfSome_then}
use Rattle.subst_language.specs.Language.Several.{RefusesFirst}
use Rattle.subst_error.specs.ErrorFault.{error_fault}
use Rattle.subst_yaml.specs.Filled.{strings_of, token_at}
use Rattle.subst_yaml.proofs.PassLemmas.{first_of_value, refused_as}
use Rattle.subst_yaml.proofs.filled.fill_in_event.Goals as goal

pub returns-in_err-change_of-clause-subst : goal.returns-in_err-change_of-clause-subst
returns-in_err-change_of-clause-subst g c =
    let ask = g.F.Fill.answers c.args.filler.now in
    let it = c.in-Value in
    let token = token_at c.args.source.now it.span in
    let failed = c.in_err-change_of in
    rw it.is (refused_as (RefusesFirst ask (strings_of it.style it.indent token)) failed.field-0.0
    c.from_residual.result c.from_residual.ensures.1
    (IfSome_then (error_fault failed.field-0.0) (rw c.token_at-token.ensures at failed.ensures.err)
    (first_of_value ask it.style it.indent token)))
