use Rattle.subst_language.proofs.Language.ValueLengthLemmas.{value_length_at_most, value_length_exact, visited_length_at_most}
use Rattle.subst_language.proofs.laws.outputs_are_bounded.Goals as goal

-- the length is that of the bytes
pub returns-clause-exact : goal.returns-clause-exact
returns-clause-exact c = value_length_exact

-- the length is at most that of the source and of the values
pub returns-clause-bound : goal.returns-clause-bound
returns-clause-bound c = value_length_at_most

-- at most one value is visited for each name
pub returns-clause-values : goal.returns-clause-values
returns-clause-values c = visited_length_at_most
