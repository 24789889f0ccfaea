-- The line is the text before the start of the range and the text from there on.
use Rattle.subst_error.proofs.LineLemmas.{slice_range_in_two}
use Rattle.subst_error.proofs.line.marked_line.Goals as goal

pub returns-clause-text : goal.returns-clause-text
returns-clause-text c =
    let start = c.args.range.start in
    let parts = slice_range_in_two c.args.source.now c.line_start-start.result start c.line_end-end.result
    c.line_start-start.ensures.within c.line_end-end.ensures.within in
    cc
