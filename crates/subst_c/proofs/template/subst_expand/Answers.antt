-- The answers of a source's cells are those of the source.
use Rattle.subst_c.proofs.ExpandedLemmas.{answers_by_number, expands_as, never_breaks}
use Rattle.subst_c.specs.Values.{given_values}
use Rattle.subst_c.proofs.template.subst_expand.Goals as goal

pub returns-clause-parsed : goal.returns-clause-parsed
returns-clause-parsed c = λ names is.
    let s = c.args.source.now in
    let cells = c.args.cells.now in
    let values = given_values c.args.values.now in
    let law = c.cells_expand_to_the_value.ensures.value s names cells values is in (
      expands_as (answers_by_number cells s names values is law) c.expand_into.ensures.answer,
      λ broken. never_breaks cells s names values is law (c.expand_into.ensures.broken broken),
    )
