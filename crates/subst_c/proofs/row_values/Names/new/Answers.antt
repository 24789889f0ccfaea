-- The names of a sentence are distinct.
use Rattle.std.proofs.Common.{sym, subst}
use Rattle.subst_indexed.specs.Names.{AreDistinct, HasNumbers}
use Rattle.subst_c.specs.RowValues.{bytes_of}
use Rattle.subst_c.proofs.RowValuesLemmas.{template_distinct}
use Rattle.subst_c.proofs.row_values.Names.new.Goals as goal

pub invariant_of-result : goal.invariant_of-result
invariant_of-result c = record {
  distinct = template_distinct c.args.template.now c.in_ok-list.list.items c.requires c.in_ok-list.ensures;
  numbered = tt;
}

pub numbers_of-requires : goal.numbers_of-requires
numbers_of-requires c =
    subst (λ names. AreDistinct (bytes_of names)) (sym c.deref.ensures.value)
    (template_distinct c.args.template.now c.in_ok-list.list.items c.requires c.in_ok-list.ensures)

pub invariant_of-result-2 : goal.invariant_of-result-2
invariant_of-result-2 c = record {
  distinct = template_distinct c.args.template.now c.in_ok-list.list.items c.requires c.in_ok-list.ensures;
  numbered =
      subst (λ names. HasNumbers c.in_ok-numbers_of.field-0 (bytes_of names)) c.deref.ensures.value
      c.in_ok-numbers_of.ensures;
}
