use Rattle.subst_foreign.proofs.PlainLemmas.{plain_found, plain_none}
use Rattle.subst_foreign.proofs.convert.find_special.Goals as goal

pub returns-else-depth-eq0-clause-some : goal.returns-else-depth-eq0-clause-some
returns-else-depth-eq0-clause-some c = plain_found _ _ _ c.if-depth-eq0.false c.find_inner.ensures

pub returns-else-depth-eq0-clause-none : goal.returns-else-depth-eq0-clause-none
returns-else-depth-eq0-clause-none c = plain_none _ _ _ c.if-depth-eq0.false c.find_inner.ensures
