-- The result states the answer.
use Rattle.std.proofs.Common.{rules}
use Rattle.subst_document.proofs.FillerLemmas.{stated_answer}
use Rattle.subst_document.proofs.FillerFill.fill.Goals as goal

pub returns-clause-answer : goal.returns-clause-answer
returns-clause-answer g c = search (rules, stated_answer)
