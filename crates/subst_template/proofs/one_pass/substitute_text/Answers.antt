-- The output is a text if the values are, and the range of a refusal of a text is in it.
use Rattle.std.proofs.Common.{sym, subst}
use Rattle.std.proofs.lemmas.Result.{err_from_is_err_and}
use Rattle.std.proofs.lemmas.Str.{IsUtf8-nil}
use Rattle.std.specs.Str.{IsUtf8}
use Rattle.subst_template.proofs.SubstituteLemmas.{appended_is_text, range_in_text, states_refusal}
use Rattle.subst_template.proofs.one_pass.substitute_text.Goals as goal

pub text_of-requires : goal.text_of-requires
text_of-requires g c =
    let is = subst IsUtf8 (sym c.as_bytes-source.ensures.value) c.utf8.source in
    appended_is_text c.as_bytes-source.result.now (g.M.VariableMap.look_up c.args.variables.now) is IsUtf8-nil
    c.in_ok-substitute.ensures.filled

pub returns-in_err-substitute-clause-range : goal.returns-in_err-substitute-clause-range
returns-in_err-substitute-clause-range g c =
    let gone = c.from_residual in
    let (e, is, gives) = err_from_is_err_and gone.result gone.ensures.1 in
    rw (is, gives) (range_in_text c.args.source.now (g.M.VariableMap.look_up c.args.variables.now) _
    c.utf8.source (λ look names. states_refusal c.args.source.now look _
    (rw (← c.as_bytes-source.ensures.value) (c.in_err-substitute.ensures.refusal look names))))

pub returns-clause-complete : goal.returns-clause-complete
returns-clause-complete g c look names =
    rw (← c.as_bytes-source.ensures.value) (c.in_ok-substitute.ensures.complete look names)
