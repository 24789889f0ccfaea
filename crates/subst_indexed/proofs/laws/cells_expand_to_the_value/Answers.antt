use Rattle.subst_indexed.proofs.CellsValueLemmas.{template_names, template_value}
use Rattle.subst_indexed.proofs.NameLemmas.{name_spans}
use Rattle.subst_indexed.proofs.laws.cells_expand_to_the_value.Goals as goal

-- by the parts that the cells keep
pub returns : goal.returns
returns c = record {
  value = λ s names cells values is t spells. template_value s names values cells t is spells;
  names = λ s names cells is t spells. template_names s names cells t is spells;
  spans = name_spans;
}
