use Rattle.subst_language.proofs.Language.LateFaultLemmas.{brace_opens, escape_ends}
use Rattle.subst_language.proofs.laws.law_5.Goals as goal

-- a source with a missing closing brace
pub returns-clause-brace : goal.returns-clause-brace
returns-clause-brace c = brace_opens

-- a source with an escape without a character
pub returns-clause-escape : goal.returns-clause-escape
returns-clause-escape c = escape_ends
