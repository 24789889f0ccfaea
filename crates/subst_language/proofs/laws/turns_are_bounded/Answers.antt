use Rattle.std.proofs.Common.{None, false}
use Rattle.subst_language.proofs.Language.CountLemmas.{parts_few}
use Rattle.subst_language.proofs.laws.turns_are_bounded.Goals as goal

pub returns-clause-visited : goal.returns-clause-visited
returns-clause-visited c t look = (parts_few look false t).visited_at_most

pub returns-clause-parts : goal.returns-clause-parts
returns-clause-parts c t = (parts_few (λ name. None) false t).parts_at_most
