-- The line that was read is the first row that is left.
use Rattle.subst_rows.specs.Columns.{bytes_of}
use Rattle.subst_rows.proofs.RowsLemmas.{line_read}
use Rattle.subst_rows.proofs.rows.next_object.Goals as goal

pub returns : goal.returns
returns c = λ before after.
    line_read c.args.nested (bytes_of c.args.names.now) c.in-Some.line.number c.in-Some.line.bytes.now
    c.in_ok-row.row.cells.items c.args.lines.now c.next_line.new.self before after
    c.in-Some.ensures c.in_ok-row.ensures.ok
