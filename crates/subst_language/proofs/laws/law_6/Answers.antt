use Rattle.subst_language.proofs.Language.SettledLemmas.{settled_stays}
use Rattle.subst_language.proofs.Language.UnsettledLemmas.{unsettled_mended}
use Rattle.subst_language.proofs.laws.law_6.Goals as goal

-- each settled fault of a text stays
pub returns-clause-settled : goal.returns-clause-settled
returns-clause-settled c = settled_stays

-- each other fault is removed by some text
pub returns-clause-unsettled : goal.returns-clause-unsettled
returns-clause-unsettled c = unsettled_mended
