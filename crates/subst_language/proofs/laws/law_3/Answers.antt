use Rattle.subst_language.proofs.Language.EscapedLemmas.{escaped_gives, escaped_default_gives}
use Rattle.subst_language.proofs.laws.law_3.Goals as goal

-- the output of each escaped text is the text
pub returns-clause-alone : goal.returns-clause-alone
returns-clause-alone c = escaped_gives

-- so it is as a default
pub returns-clause-as_default : goal.returns-clause-as_default
returns-clause-as_default c = escaped_default_gives
