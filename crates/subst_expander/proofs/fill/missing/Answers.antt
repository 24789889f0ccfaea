-- The variables are those of the template, and a source that is no template has no tree.
use Rattle.subst.specs.ErrorFault.{parse_fault}
use Rattle.subst_expander.proofs.PartLemmas.{no_tree}
use Rattle.subst_expander.proofs.fill.missing.Goals as goal

pub returns-in-Ok : goal.returns-in-Ok
returns-in-Ok g c = rw c.in-Ok.ensures.ok.1 at c.missing.ensures.missing

pub returns-in_ok-no_faults-in-Err : goal.returns-in_ok-no_faults-in-Err
returns-in_ok-no_faults-in-Err g c = λ look same t spells. absurd (no_tree c.args.source.now
    (parse_fault c.in-Err.e) c.in-Err.ensures.err c.in_ok-no_faults-in-Err.ensures.wrong t spells)
