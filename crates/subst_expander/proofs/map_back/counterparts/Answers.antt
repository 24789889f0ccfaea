-- The variables of both are paired; a source that is no template has no tree.
use Rattle.std.proofs.Common.{Some}
use Rattle.subst.specs.ErrorFault.{parse_fault}
use Rattle.subst_expander.specs.Fill.{grammar_in}
use Rattle.subst_expander.proofs.PartLemmas.{no_tree}
use Rattle.subst_expander.proofs.MapBackLemmas.{counterparts_are}
use Rattle.subst_expander.proofs.map_back.counterparts.Goals as goal

pub returns-in-Ok : goal.returns-in-Ok
returns-in-Ok c =
    counterparts_are (grammar_in c.args.chosen.now (Some c.args.variables)) c.args.text.now c.args.template.now
    c.in_ok-variables-in-Ok.field-0.items c.in_ok-listed.listed.items c.paired.result
    (rw c.in-Ok.ensures.ok.1 at c.in_ok-variables-in-Ok.ensures.variables)
    (rw (c.style_of.ensures.forms, c.style_of.ensures.names) at c.in_ok-listed.ensures.listed) c.paired.ensures

pub returns : goal.returns
returns c = λ t spells. absurd (no_tree c.args.template.now (parse_fault c.in-Err.e) c.in-Err.ensures.err
    c.in_ok-no_faults-in-Err.ensures.wrong t spells)
