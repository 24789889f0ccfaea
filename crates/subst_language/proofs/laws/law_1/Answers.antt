use Rattle.subst_language.proofs.Language.ReadingLemmas.{one_reading}
use Rattle.subst_language.proofs.laws.law_1.Goals as goal

-- each text has one reading
pub returns : goal.returns
returns c = record { reading = one_reading }
