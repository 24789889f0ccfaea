-- The fault is that of the document with every name.
use Rattle.std.proofs.Common.{Err}
use Rattle.subst_c.specs.DocumentNames.{every_name}
use Rattle.subst_c.proofs.DocumentLemmas.{fault_by}
use Rattle.subst_c.proofs.DocumentNamesLemmas.{never_missing}
use Rattle.subst_c.proofs.document.by_names.parse.Goals as goal

pub returns-in-Err-clause-fault : goal.returns-in-Err-clause-fault
returns-in-Err-clause-fault g c =
    fault_by g.D.DocumentFormat.format every_name c.args.source.now (Err c.in-Err.e)
    (rw c.in-Ok.ensures.0 at c.in-Err.ensures) _ _ _
    c.refuse.ensures.refused c.refuse.ensures.fault_kept

pub returns-in-Err-clause-never_missing : goal.returns-in-Err-clause-never_missing
returns-in-Err-clause-never_missing g c = λ is.
    let sets = fault_by g.D.DocumentFormat.format every_name c.args.source.now (Err c.in-Err.e)
    (rw c.in-Ok.ensures.0 at c.in-Err.ensures) _ _ _ c.refuse.ensures.refused c.refuse.ensures.fault_kept in
    never_missing g.D.DocumentFormat.format c.args.source.now _ (sets.refused is)
