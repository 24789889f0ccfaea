use Rattle.std.proofs.Common.{◌∙◌, sym}
use Rattle.subst_yaml_reader.proofs.SearchLemmas.{comment_begins, indentation_passed}
use Rattle.subst_yaml_reader.proofs.runs.after_lines.Goals as goal

pub loop-rest-preserved : goal.loop-rest-preserved
loop-rest-preserved c = c.loop-rest.invariant
    ∙ comment_begins c.args.comments c.loop-rest.begin c.loop-rest.rest.now c.to_line_feed-rest.result.now
    c.in-len1-up.len_at_least c.if-comments.true c.if-first-eq35.true c.to_line_feed-rest.ensures.value

pub loop-rest-preserved-then-is_indentation : goal.loop-rest-preserved-then-is_indentation
loop-rest-preserved-then-is_indentation c = c.loop-rest.invariant
    ∙ indentation_passed c.args.comments c.loop-rest.begin c.loop-rest.rest.now c.after_spaces-rest.result.now
    c.in-len1-up.len_at_least (sym c.is_indentation.ensures ∙ c.if-is_indentation.true)
    c.after_spaces-rest.ensures.value
