use Rattle.subst_language.proofs.Earlier.ExtensionLemmas.{keeps_reading}
use Rattle.subst_language.proofs.laws.law_9.Goals as goal

-- each text has its earlier reading
pub returns : goal.returns
returns c = record { kept = keeps_reading }
