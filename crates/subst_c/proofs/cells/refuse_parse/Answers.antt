-- The fault of the parse is that of the source.
use Rattle.std.proofs.Common.{Option, IfSome, sym, subst, rules, arith}
use Rattle.subst_error.specs.ErrorFault.{error_fault}
use Rattle.subst_error.specs.Fault.{Fault}
use Rattle.subst_language.specs.Language.BadItem.{HasFault}
use Rattle.subst_c.proofs.AnswerLemmas.{record_of_refusal}
use Rattle.subst_c.proofs.CellsLemmas.{parse_fault_within}
use Rattle.subst_c.proofs.cells.refuse_parse.Goals as goal

pub refuse-requires : goal.refuse-requires
refuse-requires c =
    let s = c.args.source.now in
    let is = subst (λ (o : Option Fault). IfSome o (HasFault 0 s)) (sym c.from.ensures) c.requires in
    let within = parse_fault_within s (error_fault c.from.result) is in
    search (rules, arith)

pub returns-clause-fault : goal.returns-clause-fault
returns-clause-fault c =
    let s = c.args.source.now in
    let is = subst (λ (o : Option Fault). IfSome o (HasFault 0 s)) (sym c.from.ensures) c.requires in
    record {
      refused = λ told.
          record_of_refusal (error_fault c.from.result) (HasFault 0 s) _ is (c.refuse.ensures.refused told);
      within = λ told.
          omega (arith, c.refuse.ensures.end told, parse_fault_within s (error_fault c.from.result) is);
      fault_kept = c.refuse.ensures.kept;
    }
