-- The next row has an output, or a variable is missing.
use Rattle.std.proofs.Common.{Some, subst, sym}
use Rattle.subst_error.specs.Fault.{NoSuchVariable}
use Rattle.subst_rows.proofs.LetterLemmas.{missing_at, row_gives, row_refuses}
use Rattle.subst_rows.specs.Row.{cell_look}
use Rattle.subst_rows.specs.Rows.{ReadsRow, row_cells}
use Rattle.subst_rows.proofs.bound.Bound.next_output.Goals as goal

pub returns-in-Ok-clause-outcome : goal.returns-in-Ok-clause-outcome
returns-in-Ok-clause-outcome c fixed fallback are =
    let head = c.args.rows.now.head in
    let cells = row_cells c.in-Ok-Some.row in
    let no_empty = c.args.self.now.sources.no_empty in
    let given = c.in-Ok.ensures.value head fixed fallback are.tree are.spelled are.columns are.over are.under in (
      cell_look head cells,
      given.0,
      rw c.in-Ok-Some.field-0-is at c.in-Ok-Some.ensures.row,
      row_gives c.args.self.now.template.now are.tree are.spelled head cells no_empty fixed fallback given.0
          given.1,
      given.2,
    )

pub returns-in-Err-NoSuchVariable-clause-outcome : goal.returns-in-Err-NoSuchVariable-clause-outcome
returns-in-Err-NoSuchVariable-clause-outcome c fixed fallback are =
    let head = c.args.rows.now.head in
    let cells = row_cells c.in-Ok-Some.row in
    let no_empty = c.args.self.now.sources.no_empty in
    let it = c.in-Err-NoSuchVariable.missing in
    let f = NoSuchVariable it.position it.name.now in
    let told = c.append_output-outcome.ensures.value head fixed fallback are.tree are.spelled are.columns are.over
    are.under in
    let missing = missing_at c.append_output-outcome.result c.in-Err-NoSuchVariable.field-0 it _ _ _
    c.in-Err-NoSuchVariable.is (rw c.in-Err-NoSuchVariable.is at c.in-Err-NoSuchVariable.field-0-is) told in (
      cell_look head cells,
      f,
      subst (λ new. ReadsRow c.args.rows.now new (Some (cell_look head cells))) (sym c.line.ensures)
          (rw c.in-Ok-Some.field-0-is at c.in-Ok-Some.ensures.row),
      row_refuses c.args.self.now.template.now are.tree are.spelled head cells no_empty fixed fallback f missing,
      rw c.in-Err-NoSuchVariable.is at c.append_output-outcome.ensures.kept,
    )
