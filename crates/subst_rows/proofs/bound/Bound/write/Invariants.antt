-- The outputs of the rows so far are written, but for the pending bytes.
use Rattle.subst_language.specs.Language.LookUp.{LookUp}
use Rattle.subst_rows.proofs.LetterLemmas.{IsWriting}
use Rattle.subst_rows.specs.Letter.{AreValues}
use Rattle.subst_rows.specs.Row.{look_in_row}
use Rattle.subst_rows.specs.Rows.{KeepsNames}
use Rattle.subst_rows.specs.RowsView.{count_left}
use Rattle.subst_rows.proofs.bound.Bound.write.Given as goal

abbrev pub invariant-loop-pending : goal.invariant-loop-pending
invariant-loop-pending g l =
    let s = l.fn.self.template.now in
    let sources = l.fn.self.sources in
    record {
      kept : KeepsNames l.fn.rows l.rows;
      so : (fixed fallback : LookUp) → AreValues s sources l.fn.rows.head fixed fallback
          → IsWriting s (λ row. look_in_row sources.no_empty row fixed fallback)
          l.fn.layout.separator.now l.fn.layout.leaves_out l.fn.rows (g.O.ByteOutput.written l.fn.device) l.rows
          l.pending.items l.is_first (g.O.ByteOutput.written l.device);
    }

abbrev pub decreases-loop-pending : goal.decreases-loop-pending
decreases-loop-pending g l = count_left l.rows.left
