-- There is no map.
use Rattle.subst_indexed.proofs.names.Names.new.Goals as goal

pub invariant_of-result-clause-numbered : goal.invariant_of-result-clause-numbered
invariant_of-result-clause-numbered c = tt
