use Rattle.std.proofs.Common.{◌∙◌, arith}
use Rattle.std.proofs.lemmas.Grind.{common_steps}
use Rattle.subst_yaml_reader.proofs.SearchLemmas.{text_passed}
use Rattle.subst_yaml_reader.proofs.search.after_clear.Goals as goal

pub returns-then-len-lt-WIDTH-clause-same : goal.returns-then-len-lt-WIDTH-clause-same
returns-then-len-lt-WIDTH-clause-same c = c.loop-rest.invariant.same
    ∙ text_passed c.clear_len-len.result c.loop-rest.rest.now c.rest_of-rest.result.now
    c.clear_len-len.ensures.len c.rest_of-rest.ensures

pub loop-rest-preserved : goal.loop-rest-preserved
loop-rest-preserved c = record {
  same = c.loop-rest.invariant.same
      ∙ text_passed c.clear_len-len.result c.loop-rest.rest.now c.rest_of-rest.result.now
      c.clear_len-len.ensures.len c.rest_of-rest.ensures;
  shorter = grind (arith, common_steps);
}
