-- The outputs so far are those of the rows so far.
use Rattle.std.proofs.Common.{◌≡◌, take}
use Rattle.subst_c.proofs.RowsLemmas.{AreWritten}
use Rattle.subst_c.specs.Values.{under_values}
use Rattle.subst_c.proofs.rows.expand_each.Given as goal

abbrev pub invariant-loop-i : goal.invariant-loop-i
invariant-loop-i l = record {
  written : AreWritten (under_values l.cells l.source) (take l.i l.rows) l.written l.initial.buffer l.buffer
      l.initial.ends l.ends;
  row_kept : l.row ≡ l.initial.row;
  fault_kept : l.fault ≡ l.initial.fault;
}
