-- The appended bytes are a text if the values are, and the range of a refusal of a text is in it.
use Rattle.std.proofs.Common.{refl, sym, subst}
use Rattle.std.proofs.lemmas.Str.{IsUtf8-had}
use Rattle.std.specs.Str.{IsUtf8}
use Rattle.subst_error.specs.ErrorFault.{substitute_into_fault}
use Rattle.subst_template.proofs.SubstituteLemmas.{ranges_in_text, text_since}
use Rattle.subst_template.proofs.one_pass.substitute_text_into.Goals as goal

pub text_of-requires : goal.text_of-requires
text_of-requires g c =
    let look_up = g.M.VariableMap.look_up c.args.variables.now in
    let first = subst IsUtf8 (rw (c.into_bytes-bytes.ensures.value, c.replace.ensures.value) refl)
    (IsUtf8-had _ c.args.output.now.ok) in
    let is = subst IsUtf8 (sym c.as_bytes-source.ensures.value) c.utf8.source in
    text_since c.as_bytes-source.result.now look_up c.substitute_into-outcome.result is first
    c.substitute_into-outcome.ensures.kept c.substitute_into-outcome.ensures.filled

pub returns-clause-refusal : goal.returns-clause-refusal
returns-clause-refusal g c look names =
    rw (← c.as_bytes-source.ensures.value) (c.substitute_into-outcome.ensures.refusal look names)

pub returns-clause-range : goal.returns-clause-range
returns-clause-range g c =
    ranges_in_text substitute_into_fault c.args.source.now (g.M.VariableMap.look_up c.args.variables.now)
    c.substitute_into-outcome.result c.utf8.source (λ look names.
    rw (← c.as_bytes-source.ensures.value) (c.substitute_into-outcome.ensures.refusal look names))

pub returns-clause-complete : goal.returns-clause-complete
returns-clause-complete g c =
    rw (← c.as_bytes-source.ensures.value) c.substitute_into-outcome.ensures.complete
