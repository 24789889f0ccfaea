use Rattle.subst_language.proofs.Language.MissingLemmas.{bytes_stay}
use Rattle.subst_language.proofs.Language.NamesInLemmas.{value_same}
use Rattle.subst_language.proofs.laws.law_4.Goals as goal

-- if the look-ups agree on the names, the value is the same
pub returns-clause-same : goal.returns-clause-same
returns-clause-same c = value_same

-- if the second has values for at least the same names, bytes stay bytes
pub returns-clause-bytes : goal.returns-clause-bytes
returns-clause-bytes c = bytes_stay
