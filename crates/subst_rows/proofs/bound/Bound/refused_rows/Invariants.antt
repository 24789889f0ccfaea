-- The template is expanded for the rows so far.
use Rattle.subst_language.specs.Language.LookUp.{LookUp}
use Rattle.subst_rows.proofs.LetterLemmas.{IsChecking}
use Rattle.subst_rows.specs.Letter.{AreValues}
use Rattle.subst_rows.specs.Row.{look_in_row}
use Rattle.subst_rows.specs.Rows.{KeepsNames}
use Rattle.subst_rows.specs.RowsView.{count_left}
use Rattle.subst_rows.proofs.bound.Bound.refused_rows.Given as goal

abbrev pub invariant-loop-output : goal.invariant-loop-output
invariant-loop-output l =
    let s = l.fn.self.template.now in
    let sources = l.fn.self.sources in
    record {
      kept : KeepsNames l.fn.rows l.rows;
      so : (fixed fallback : LookUp) → AreValues s sources l.fn.rows.head fixed fallback
          → IsChecking s (λ row. look_in_row sources.no_empty row fixed fallback) l.fn.rows l.rows l.refused.count;
    }

abbrev pub decreases-loop-output : goal.decreases-loop-output
decreases-loop-output l = count_left l.rows.left
