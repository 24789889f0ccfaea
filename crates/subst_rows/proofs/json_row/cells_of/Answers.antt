-- By the cells before, and that of the name at the index.
use Rattle.std.proofs.Common.{◌∷◌, [], length, length-append, refl, sym, ap, ◌∙◌, arith}
use Rattle.std.proofs.lemmas.List.{length-map}
use Rattle.std.proofs.lemmas.Option.{slice_get_within}
use Rattle.std.specs.Option.{option_map}
use Rattle.json.proofs.Numbered.{HasNumbers-get}
use Rattle.json.specs.Json.{object}
use Rattle.json.specs.Value.{members_view, value_view}
use Rattle.subst_rows.specs.Columns.{bytes_of}
use Rattle.subst_rows.specs.JsonRow.{cell_bytes, cell_value}
use Rattle.subst_rows.proofs.ColumnLemmas.{named}
use Rattle.subst_rows.proofs.JsonRowLemmas.{cells_more, found_numbers}
use Rattle.subst_rows.proofs.json_row.cells_of.Goals as goal

pub cell_of-requires : goal.cell_of-requires
cell_of-requires c =
    found_numbers (λ v. value_view v.now) c.find.result _ c.find.ensures
    (λ part is. HasNumbers-get _ (object (members_view c.args.members.now.items)) part c.requires is)

pub returns-in-Ok-None-clause-err : goal.returns-in-Ok-None-clause-err
returns-in-Ok-None-clause-err c = (
  refl,
  record {
    name = _;
    at = named c.args.names.now c.loop-number.number _ c.loop-number-test.true;
    refused =
        ap (cell_value c.args.nested) (sym c.find.ensures)
        ∙ sym c.in-Ok-None.ensures ∙ ap (option_map cell_bytes) c.in-Ok-None.field-0-is;
  },
)

pub loop-number-preserved : goal.loop-number-preserved
loop-number-preserved c = record {
  counted =
      omega (
        arith,
        ap length c.in_ok-push-in-Ok-Some.ensures.ok,
        length-append c.loop-number.cells.items (c.in-Ok-Some.cell ∷ []),
        c.loop-number.invariant.counted,
      );
  found =
      cells_more c.args.nested (bytes_of c.args.names.now) (members_view c.args.members.now.items)
      c.loop-number.cells.items c.push.new.cells.items c.in-Ok-Some.cell c.loop-number.number _
      c.in_ok-push-in-Ok-Some.ensures.ok c.loop-number.invariant.counted
      (named c.args.names.now c.loop-number.number _ c.loop-number-test.true)
      (ap (cell_value c.args.nested) (sym c.find.ensures)
      ∙ sym c.in-Ok-Some.ensures ∙ ap (option_map cell_bytes) c.in-Ok-Some.field-0-is)
      c.loop-number.invariant.found;
}

pub returns-clause-ok : goal.returns-clause-ok
returns-clause-ok c = λ index name at.
    c.loop-number.invariant.found index
    (omega (
      arith,
      slice_get_within (bytes_of c.args.names.now) index name at,
      length-map c.args.names.now (λ it. it.now),
    )) name at
