-- The value of the parts is that of the source's tree, and the appended bytes are UTF-8 if the values are.
use Rattle.std.proofs.Common.{IfSome, ap, sym, ◌∙◌, subst, refl}
use Rattle.std.proofs.lemmas.Result.{IfErr-weaker}
use Rattle.std.proofs.lemmas.Str.{IsUtf8-had}
use Rattle.std.specs.Str.{IsUtf8}
use Rattle.subst_error.specs.ErrorFault.{expand_into_fault}
use Rattle.subst_language.specs.Language.Answer.{IsMissing}
use Rattle.subst_language.specs.Calls.VariableMap.{look_up_of}
use Rattle.subst_expand.specs.Filled.{marks_of}
use Rattle.subst_language.specs.Parts.Meaning.{parts_value, parts_written}
use Rattle.subst_language.proofs.Language.RangeLemmas.{expand_error_in_text}
use Rattle.subst_expand.proofs.FilledTextLemmas.{text_after}
use Rattle.subst_expand.proofs.TemplateOfLemmas.{template_value, template_written, errors_missing}
use Rattle.subst_expand.proofs.expand_text.expand_text_into.Goals as goal
use Rattle.subst_language.proofs.PartsLemmas.{same_value}

pub text_of-requires : goal.text_of-requires
text_of-requires g c =
    let look_up = g.M.VariableMap.look_up c.args.variables.now in
    let first = subst IsUtf8 (rw (c.into_bytes-bytes.ensures.value, c.replace.ensures.value) refl)
    (IsUtf8-had _ c.args.output.now.ok) in
    let is = subst IsUtf8 (sym c.as_bytes-source.ensures.value) c.utf8.source in
    text_after c.as_bytes-source.result.now c.args.parts.now look_up c.expand_into-outcome.result
    (rw c.as_bytes-source.ensures.value c.requires) is first
    c.expand_into-outcome.ensures.expands.kept c.expand_into-outcome.ensures.expands.filled

pub returns-clause-value : goal.returns-clause-value
returns-clause-value g c bytes reads t spells =
    let look = look_up_of bytes (g.M.VariableMap.look_up c.args.variables.now) in
    let same = ap (λ s. parts_value c.args.parts.now s look) c.as_bytes-source.ensures.value in
    let gives = template_value c.args.source.now c.args.parts.now t look c.requires spells in
    rw (
      ← c.replace.ensures.value,
      ← c.into_bytes-bytes.ensures.value,
      c.text_of.ensures.vec,
      ← gives,
      ← same,
    ) (c.expand_into-outcome.ensures.expands.value bytes reads)

pub returns-clause-kept : goal.returns-clause-kept
returns-clause-kept g c =
    rw (← c.replace.ensures.value, ← c.into_bytes-bytes.ensures.value, c.text_of.ensures.vec)
    c.expand_into-outcome.ensures.expands.kept

pub returns-clause-full : goal.returns-clause-full
returns-clause-full g c bytes reads t spells =
    let look = look_up_of bytes (g.M.VariableMap.look_up c.args.variables.now) in
    let same = ap (λ s. parts_written c.args.parts.now s look) c.as_bytes-source.ensures.value in
    let writes = template_written c.args.source.now c.args.parts.now t look c.requires spells in
    rw (← c.replace.ensures.value, ← c.into_bytes-bytes.ensures.value, ← writes, ← same)
    (c.expand_into-outcome.ensures.expands.full bytes reads)

pub returns-clause-missing : goal.returns-clause-missing
returns-clause-missing g c =
    let look_up = g.M.VariableMap.look_up c.args.variables.now in
    λ look names t spells.
    errors_missing expand_into_fault c.args.source.now c.args.parts.now t look_up
    c.expand_into-outcome.result c.requires spells
    (rw (sym c.as_bytes-source.ensures.value) c.expand_into-outcome.ensures.expands.missing) look names

pub returns-clause-range : goal.returns-clause-range
returns-clause-range g c =
    let look = marks_of (g.M.VariableMap.look_up c.args.variables.now) in
    let same = ap (λ s. parts_value c.args.parts.now s look) c.as_bytes-source.ensures.value in
    IfErr-weaker c.expand_into-outcome.result _ _
    (λ e missing. expand_error_in_text c.args.source.now c.requires.tree look (expand_into_fault e)
    c.utf8.source c.requires.spells
    (subst (λ v. IfSome (expand_into_fault e) (IsMissing v)) (same ∙ same_value c.requires.mean look)
    missing))
    c.expand_into-outcome.ensures.expands.missing
