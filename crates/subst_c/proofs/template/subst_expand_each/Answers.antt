-- The answers of a source's cells are those of the source, with each row of values.
use Rattle.subst_language.specs.Language.Answer.{Answer}
use Rattle.subst_c.proofs.ExpandedLemmas.{answers_by_number, never_breaks}
use Rattle.subst_c.proofs.RowsLemmas.{expands_each_as}
use Rattle.subst_c.specs.Values.{given_values, under_numbers, under_values}
use Rattle.subst_c.specs.declared.value.ValueRow.{ValueRow}
use Rattle.subst_c.proofs.template.subst_expand_each.Goals as goal

pub returns-clause-parsed : goal.returns-clause-parsed
returns-clause-parsed c = λ names is.
    let s = c.args.source.now in
    let cells = c.args.cells.now in
    let law = λ (row : ValueRow).
    c.cells_expand_to_the_value.ensures.value s names cells (given_values row.values.now) is in
    let by_number : (row : ValueRow) (a : Answer) → under_values cells s row a → under_numbers s names row a =
    λ row. answers_by_number cells s names (given_values row.values.now) is (law row) in (
      expands_each_as (under_values cells s) (under_numbers s names) by_number c.expand_each.ensures.answers,
      λ broken.
          let (row, there, breaks) = c.expand_each.ensures.broken broken in
          never_breaks cells s names (given_values row.values.now) is (law row) breaks,
    )
