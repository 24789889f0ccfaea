-- The fault in the record is that of the document.
use Rattle.subst_c.specs.Documents.{Yaml}
use Rattle.subst_c.specs.Pairs.{pair_value}
use Rattle.subst_c.proofs.DocumentLemmas.{fault_by}
use Rattle.subst_c.proofs.subst_yaml.Goals as goal

pub returns-in-Some-clause-fault : goal.returns-in-Some-clause-fault
returns-in-Some-clause-fault c =
    fault_by Yaml (pair_value c.args.pairs.now) c.args.source.now c.fill_in.result
    (rw (c.in-Some.ensures.0, c.in-Some.ensures.1) at c.fill_in.ensures) _ _ _ c.deliver.ensures.refused
    c.deliver.ensures.fault_kept
