-- Each turn appends an argument, or returns at the first refused source.
use Rattle.subst_uses.specs.CommandLine.{texts_of}
use Rattle.subst_uses.proofs.LineLemmas.{word_added, word_refused}
use Rattle.subst_uses.proofs.launcher.command_line.Goals as goal

pub returns-in_err-by_strings-clause-err : goal.returns-in_err-by_strings-clause-err
returns-in_err-by_strings-clause-err c =
    let look = texts_of c.args.variables.now in
    word_refused look (λ w. w.now) c.args.words.now c.loop-word.word-index _ _ _ c.from_residual.result
    c.in_err-by_strings.field-0.0 c.from_residual.ensures.1 c.loop-word-test.true c.loop-word.invariant
    c.as_bytes.ensures.value c.in_err-by_strings.ensures

pub loop-word-preserved : goal.loop-word-preserved
loop-word-preserved c =
    let look = texts_of c.args.variables.now in
    rw c.in_ok-push.ensures.items
    (word_added look (λ w. w.now) (λ x. x.items) c.args.words.now c.loop-word.word-index _
    c.loop-word.line.items c.in_ok-by_strings.field-0 _ c.loop-word-test.true c.loop-word.invariant
    c.as_bytes.ensures.value c.in_ok-by_strings.ensures)
