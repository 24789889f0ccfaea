use Rattle.std.proofs.Common.{◌∙◌, sym, arith}
use Rattle.std.proofs.lemmas.Grind.{common_steps}
use Rattle.subst_yaml_reader.proofs.SearchLemmas.{line_ends, line_passed}
use Rattle.subst_yaml_reader.proofs.search.to_line_feed.Goals as goal

pub returns-then-len-lt-WIDTH-clause-value : goal.returns-then-len-lt-WIDTH-clause-value
returns-then-len-lt-WIDTH-clause-value c = sym (c.loop-rest.invariant.same
    ∙ line_ends c.line_len-len.result c.loop-rest.rest.now c.rest_of-rest.result.now
    c.line_len-len.ensures.len c.rest_of-rest.ensures (omega arith))

pub loop-rest-preserved : goal.loop-rest-preserved
loop-rest-preserved c = record {
  same = c.loop-rest.invariant.same
      ∙ line_passed c.line_len-len.result c.loop-rest.rest.now c.rest_of-rest.result.now
      c.line_len-len.ensures.len c.rest_of-rest.ensures;
  shorter = grind (arith, common_steps);
}
