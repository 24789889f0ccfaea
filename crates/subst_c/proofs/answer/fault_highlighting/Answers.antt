-- The fault's range is in the text, and the fault is the one that the source is refused for.
use Rattle.subst_language.proofs.CallingLemmas.{range_in_text}
use Rattle.subst_language.specs.Language.Answer.{Answers, Gives}
use Rattle.subst_c.specs.Pairs.{pair_value}
use Rattle.subst_c.proofs.AnswerLemmas.{highlighting_of_error}
use Rattle.subst_c.proofs.answer.fault_highlighting.Goals as goal

pub source_highlighting-requires : goal.source_highlighting-requires
source_highlighting-requires c =
    let look = pair_value c.args.pairs.now in
    range_in_text c.args.source.now look c.in-Err.e c.utf8.source
    (rw c.as_bytes.ensures.value at c.in-Err.ensures.answer)

pub returns-in-Ok : goal.returns-in-Ok
returns-in-Ok c =
    (Gives c.in-Ok.field-0.items, rw c.as_bytes.ensures.value at c.in-Ok.ensures.answer, c.new.ensures.bytes)

pub returns : goal.returns
returns c =
    let look = pair_value c.args.pairs.now in
    highlighting_of_error c.in-Err.e (Answers c.args.source.now look) c.args.source.now
    c.source_highlighting.result c.in_default.not-OutOfMemory
    (rw c.as_bytes.ensures.value at c.in-Err.ensures.answer) c.source_highlighting.ensures.highlighting
