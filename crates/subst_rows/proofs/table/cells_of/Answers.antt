-- By the cells before, and the one at the index.
use Rattle.std.proofs.Common.{◌++◌, ◌∷◌, [], sym, ap, ◌∙◌}
use Rattle.std.proofs.lemmas.List.{map-append}
use Rattle.csv.specs.Records.{fields_of}
use Rattle.subst_rows.specs.Columns.{bytes_of}
use Rattle.subst_rows.proofs.ListLemmas.{take_given, take_past}
use Rattle.subst_rows.proofs.RecordsLemmas.{field_at-get}
use Rattle.subst_rows.proofs.table.cells_of.Goals as goal

pub returns-in-None : goal.returns-in-None
returns-in-None c =
    c.loop-index.invariant
    ∙ take_past (fields_of c.args.«record».now) c.loop-index.index
    (c.in-None.ensures.value ∙ field_at-get (fields_of c.args.«record».now) c.loop-index.index)

pub loop-index-preserved : goal.loop-index-preserved
loop-index-preserved c =
    ap bytes_of c.in_ok-push-in-Some.ensures.items
    ∙ map-append (λ cell. cell.now) c.loop-index.cells.items (c.in-Some.cell ∷ [])
    ∙ ap (λ xs. xs ++ c.in-Some.cell.now ∷ []) c.loop-index.invariant
    ∙ sym (take_given (fields_of c.args.«record».now) c.loop-index.index c.in-Some.cell.now
    (c.in-Some.ensures.value ∙ field_at-get (fields_of c.args.«record».now) c.loop-index.index))
