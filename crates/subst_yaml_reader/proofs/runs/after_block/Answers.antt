use Rattle.std.proofs.Common.{◌∙◌, sym}
use Rattle.subst_yaml_reader.proofs.SearchLemmas.{block_text_ends, no_text_after, text_after}
use Rattle.subst_yaml_reader.proofs.runs.after_block.Goals as goal

pub returns-in_default-line_end : goal.returns-in_default-line_end
returns-in_default-line_end c = sym (c.loop-rest.invariant
    ∙ block_text_ends c.args.indent c.args.keep c.loop-rest.column c.loop-rest.end.now c.loop-rest.rest.now
    c.to_line_feed-line_end.result.now c.in-len1-up.len_at_least c.if-first-eq10.false c.if-first-eq13.false
    c.if-column-indent.true c.to_line_feed-line_end.ensures.value
    ∙ no_text_after c.args.indent c.args.keep c.to_line_feed-line_end.result.now
    c.in_default-line_end.len_below)

pub loop-rest-preserved-then-column-indent : goal.loop-rest-preserved-then-column-indent
loop-rest-preserved-then-column-indent c = c.loop-rest.invariant
    ∙ block_text_ends c.args.indent c.args.keep c.loop-rest.column c.loop-rest.end.now c.loop-rest.rest.now
    c.to_line_feed-line_end.result.now c.in-len1-up.len_at_least c.if-first-eq10.false c.if-first-eq13.false
    c.if-column-indent.true c.to_line_feed-line_end.ensures.value
    ∙ text_after c.args.indent c.args.keep c.to_line_feed-line_end.result.now
    c.in-len1-up-line_end.len_at_least
