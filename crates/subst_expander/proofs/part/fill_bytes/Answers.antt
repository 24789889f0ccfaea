-- The source is a template itself, or is converted into one.
use Rattle.std.proofs.Common.{refl}
use Rattle.subst_expander.proofs.ExpansionLemmas.{weaker_outcome}
use Rattle.subst_expander.proofs.part.fill_bytes.Goals as goal

pub returns-in-Own : goal.returns-in-Own
returns-in-Own c = rw c.in-Own.is (record {
  gives = λ entries are. weaker_outcome c.fill_template.result _ _
      (λ output is. (c.args.source.now, refl, is)) (c.fill_template.ensures.gives entries are);
  refused = c.fill_template.ensures.refused;
})

pub returns-in-Chosen : goal.returns-in-Chosen
returns-in-Chosen c = rw c.in-Chosen.is c.fill_chosen.ensures
