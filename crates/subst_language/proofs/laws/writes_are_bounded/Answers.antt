use Rattle.subst_language.proofs.Language.ValueLengthLemmas.{written_exact, written_length_at_most}
use Rattle.subst_language.proofs.laws.writes_are_bounded.Goals as goal

-- all of a value is written
pub returns-clause-exact : goal.returns-clause-exact
returns-clause-exact c = written_exact

-- no more is written than is counted
pub returns-clause-bound : goal.returns-clause-bound
returns-clause-bound c = written_length_at_most
