use Rattle.std.proofs.Common.{◌∙◌, sym}
use Rattle.subst_yaml_reader.proofs.SearchLemmas.{inner_run}
use Rattle.subst_yaml_reader.proofs.runs.after_plain.Goals as goal

pub loop-rest-preserved-then-is_inner : goal.loop-rest-preserved-then-is_inner
loop-rest-preserved-then-is_inner c = c.loop-rest.invariant
    ∙ inner_run c.args.in_flow c.loop-rest.end.now c.loop-rest.rest.now c.after_inner-rest.result.now
    c.in-len1-up.len_at_least (sym c.is_inner.ensures ∙ c.if-is_inner.true) c.after_inner-rest.ensures.value
