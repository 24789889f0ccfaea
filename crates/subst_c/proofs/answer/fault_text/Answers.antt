-- An error that isn't out of memory has the fault that the source is refused for.
use Rattle.subst_language.specs.Language.Answer.{Answers, Gives}
use Rattle.subst_c.specs.Pairs.{pair_value}
use Rattle.subst_c.proofs.AnswerLemmas.{text_of_error}
use Rattle.subst_c.proofs.answer.fault_text.Goals as goal

pub returns-in-Ok : goal.returns-in-Ok
returns-in-Ok c = (Gives c.in-Ok.field-0.items, c.in-Ok.ensures.answer, c.new.ensures.bytes)

pub returns : goal.returns
returns c =
    text_of_error c.in-Err.e (Answers c.args.source.now (pair_value c.args.pairs.now)) c.text_of.result
    c.in_default.not-OutOfMemory c.in-Err.ensures.answer c.text_of.ensures
