use Rattle.subst_language.proofs.CallingLemmas.{plain_answer}
use Rattle.subst_language.proofs.laws.law_8.Goals as goal

-- the output of each plain text is the text
pub returns : goal.returns
returns c = record { itself = plain_answer }
