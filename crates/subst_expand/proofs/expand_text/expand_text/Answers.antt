-- The value of the parts is that of the source's tree, which is UTF-8 if the source and the values are.
use Rattle.std.proofs.Common.{IfSome, ap, sym, ◌∙◌, subst}
use Rattle.std.specs.Str.{IsUtf8}
use Rattle.subst_error.specs.ErrorFault.{expand_fault}
use Rattle.subst_language.specs.Language.Answer.{IsMissing}
use Rattle.subst_language.specs.Language.Value.{Bytes}
use Rattle.subst_language.specs.Calls.VariableMap.{look_up_of}
use Rattle.subst_expand.specs.Filled.{FillsMarks, marks_of}
use Rattle.subst_language.specs.Parts.Meaning.{parts_value}
use Rattle.subst_language.proofs.Language.RangeLemmas.{expand_error_in_text}
use Rattle.subst_expand.proofs.FilledTextLemmas.{output_is_text}
use Rattle.subst_expand.proofs.TemplateOfLemmas.{template_value, template_missing}
use Rattle.subst_expand.proofs.expand_text.expand_text.Goals as goal
use Rattle.subst_language.proofs.PartsLemmas.{same_value}

pub text_of-requires : goal.text_of-requires
text_of-requires g c =
    let look_up = g.M.VariableMap.look_up c.args.variables.now in
    let parts = c.args.parts.now in
    let output = c.in-Ok.output.items in
    output_is_text c.args.source.now parts look_up output c.requires c.utf8.source
    (subst (λ s. FillsMarks IsUtf8 (parts_value parts s (marks_of look_up)) output)
    c.as_bytes.ensures.value c.in-Ok.ensures.filled)

pub returns-in-Ok-clause-value : goal.returns-in-Ok-clause-value
returns-in-Ok-clause-value g c bytes reads t spells =
    let look = look_up_of bytes (g.M.VariableMap.look_up c.args.variables.now) in
    let same = ap (λ s. parts_value c.args.parts.now s look) c.as_bytes.ensures.value in
    let gives = template_value c.args.source.now c.args.parts.now t look c.requires spells in
    sym (same ∙ gives) ∙ c.in-Ok.ensures.value bytes reads
    ∙ ap Bytes (sym c.text_of.ensures.bytes)

pub returns-in-Err-clause-value : goal.returns-in-Err-clause-value
returns-in-Err-clause-value g c bytes reads t spells =
    let look = look_up_of bytes (g.M.VariableMap.look_up c.args.variables.now) in
    let same = ap (λ s. parts_value c.args.parts.now s look) c.as_bytes.ensures.value in
    let gives = template_value c.args.source.now c.args.parts.now t look c.requires spells in
    subst (λ v. IfSome (expand_fault c.in-Err.e) (IsMissing v)) (same ∙ gives)
    (c.in-Err.ensures.value bytes reads)

pub returns-in-Err-clause-missing : goal.returns-in-Err-clause-missing
returns-in-Err-clause-missing g c look names t spells =
    let look_up = g.M.VariableMap.look_up c.args.variables.now in
    let same = ap (λ s. parts_value c.args.parts.now s (marks_of look_up)) c.as_bytes.ensures.value in
    template_missing c.args.source.now c.args.parts.now t look_up (expand_fault c.in-Err.e) c.requires spells
    (subst (λ v. IfSome (expand_fault c.in-Err.e) (IsMissing v)) same c.in-Err.ensures.missing) look names

pub returns-in-Err-clause-range : goal.returns-in-Err-clause-range
returns-in-Err-clause-range g c =
    let look = marks_of (g.M.VariableMap.look_up c.args.variables.now) in
    let tree = c.requires.tree in
    let same = ap (λ s. parts_value c.args.parts.now s look) c.as_bytes.ensures.value in
    let missing = subst (λ v. IfSome (expand_fault c.in-Err.e) (IsMissing v))
    (same ∙ same_value c.requires.mean look) c.in-Err.ensures.missing in
    expand_error_in_text c.args.source.now tree look (expand_fault c.in-Err.e) c.utf8.source c.requires.spells
    missing
