-- A record of the reader is a row.
use Rattle.csv.specs.Records.{fields_of}
use Rattle.subst_rows.proofs.TableLemmas.{reads_row}
use Rattle.subst_rows.proofs.table.read.Goals as goal
use Rattle.subst_rows.proofs.table.read.Goals.{in-Ok, in-Err}

pub returns-clause-ok : goal.returns-clause-ok
returns-clause-ok c =
    let trim = c.requires.trim in
    let new = c.read_byte_record.new.self in
    let fields = fields_of c.read_byte_record.new.row in
    elim c.match-read_byte_record.branch [
      | in-Ok w ↦ rw w.result-is (reads_row c.args.reader.now new fields c.requires w.in-Ok.found
          (w.in-Ok.ensures.reads trim c.requires.ready) (w.in-Ok.ensures.ready trim) w.in-Ok.ensures.goes)
      | in-Err w ↦ rw w.result-is tt
    ]
