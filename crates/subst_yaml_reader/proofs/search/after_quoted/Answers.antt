use Rattle.std.proofs.Common.{◌∙◌, arith}
use Rattle.std.proofs.lemmas.Grind.{common_steps}
use Rattle.subst_yaml_reader.proofs.SearchLemmas.{double_passed, single_passed}
use Rattle.subst_yaml_reader.proofs.search.after_quoted.Goals as goal

pub returns-then-len-lt-WIDTH-clause-double : goal.returns-then-len-lt-WIDTH-clause-double
returns-then-len-lt-WIDTH-clause-double c = c.loop-rest.invariant.double
    ∙ double_passed c.quoted_len-len.result c.loop-rest.rest.now c.rest_of-rest.result.now
    c.quoted_len-len.ensures.len c.rest_of-rest.ensures

pub returns-then-len-lt-WIDTH-clause-single : goal.returns-then-len-lt-WIDTH-clause-single
returns-then-len-lt-WIDTH-clause-single c = c.loop-rest.invariant.single
    ∙ single_passed c.quoted_len-len.result c.loop-rest.rest.now c.rest_of-rest.result.now
    c.quoted_len-len.ensures.len c.rest_of-rest.ensures

pub loop-rest-preserved : goal.loop-rest-preserved
loop-rest-preserved c = record {
  double = c.loop-rest.invariant.double
      ∙ double_passed c.quoted_len-len.result c.loop-rest.rest.now c.rest_of-rest.result.now
      c.quoted_len-len.ensures.len c.rest_of-rest.ensures;
  single = c.loop-rest.invariant.single
      ∙ single_passed c.quoted_len-len.result c.loop-rest.rest.now c.rest_of-rest.result.now
      c.quoted_len-len.ensures.len c.rest_of-rest.ensures;
  shorter = grind (arith, common_steps);
}
