use Rattle.subst_language.proofs.Language.RangeLemmas.{refusal_in_text}
use Rattle.subst_language.proofs.laws.law_7.Goals as goal

-- the range of each refusal is in the text
pub returns : goal.returns
returns c = record { range = refusal_in_text }
