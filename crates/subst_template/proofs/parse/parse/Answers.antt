-- The range of a fault is in the source.
use Rattle.std.proofs.Common.{rules}
use Rattle.subst_error.specs.ErrorFault.{parse_fault}
use Rattle.subst_language.specs.Calls.Outcome.{OnFault}
use Rattle.subst_language.specs.Language.BadItem.{HasFault}
use Rattle.subst_language.proofs.Language.RangeWithinLemmas.{parse_result_within}
use Rattle.subst_template.proofs.parse.parse.Goals as goal

pub returns-in_err-parse_packed-clause-range : goal.returns-in_err-parse_packed-clause-range
returns-in_err-parse_packed-clause-range c =
    let source = c.args.source.now in
    let fault : OnFault parse_fault c.from_residual.result (HasFault 0 source) = search rules in
    parse_result_within source c.from_residual.result fault

pub returns-in_err-parse_packed-2-clause-range : goal.returns-in_err-parse_packed-2-clause-range
returns-in_err-parse_packed-2-clause-range c =
    let source = c.args.source.now in
    let answer = c.from_residual-in_err-parse_packed-2.result in
    let fault : OnFault parse_fault answer (HasFault 0 source) = search rules in
    parse_result_within source answer fault
