-- The range of a fault is in the source.
use Rattle.std.proofs.Common.{rules, string_bytes}
use Rattle.std.proofs.lemmas.Str.{IsUtf8-string_bytes}
use Rattle.subst_error.specs.ErrorFault.{parse_fault}
use Rattle.subst_language.specs.Calls.Outcome.{OnFault}
use Rattle.subst_language.specs.Language.BadItem.{HasFault}
use Rattle.subst_language.proofs.Language.RangeLemmas.{parse_result_in_text}
use Rattle.subst_template.proofs.template.text_template_buf.TemplateBuf.from_string.Goals as goal

pub returns-in_err-parts-clause-range : goal.returns-in_err-parts-clause-range
returns-in_err-parts-clause-range c =
    let source = string_bytes c.args.source in
    let fault : OnFault parse_fault c.from_residual.result (HasFault 0 source) = search rules in
    parse_result_in_text source c.from_residual.result (IsUtf8-string_bytes c.args.source) fault
