-- By the source of each format.
use Rattle.subst_rows.specs.Columns.{bytes_of}
use Rattle.subst_rows.proofs.RowsLemmas.{csv_opened, lines_opened, tsv_opened}
use Rattle.subst_rows.proofs.rows.Rows.open.Goals as goal
use Rattle.subst_rows.proofs.rows.Rows.open.Goals.{in-Csv+in_ok-source-in-Csv, in-Tsv+in_ok-source-in-Tsv, in-JsonLines}

pub returns-clause-ok : goal.returns-clause-ok
returns-clause-ok c =
    let nested = c.args.nested in
    let names = bytes_of c.args.names.now in
    let text = c.args.text.now in
    elim c.match-format.branch [
      | in-Csv+in_ok-source-in-Csv w ↦ rw (w.in-Csv.is, w.source-is)
          (csv_opened nested names text w.in_ok-source-in-Csv.source w.in_ok-source-in-Csv.ensures.ok)
      | in-Tsv+in_ok-source-in-Tsv w ↦ rw (w.in-Tsv.is, w.source-is)
          (tsv_opened nested names text w.in_ok-source-in-Tsv.source w.in_ok-source-in-Tsv.ensures.ok)
      | in-JsonLines w ↦ rw (w.in-JsonLines.is, w.source-is)
          (lines_opened nested names text w.new.result w.new.ensures)
    ]
