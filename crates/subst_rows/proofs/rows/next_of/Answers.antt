-- By the next row of the source.
use Rattle.subst_rows.specs.Columns.{bytes_of}
use Rattle.subst_rows.proofs.rows.next_of.Goals as goal

pub returns-in-Table-clause-row : goal.returns-in-Table-clause-row
returns-in-Table-clause-row c =
    rw c.in-Table.is (c.next_record.ensures.row c.args.nested (bytes_of c.args.names.now))

pub returns-in-Json-clause-row : goal.returns-in-Json-clause-row
returns-in-Json-clause-row c = rw c.in-Json.is c.next_object.ensures
