-- The reports of the variables so far, and the remaining variables.
use Rattle.std.proofs.Common.{◌≡◌, ◌++◌, map, string_bytes}
use Rattle.std.specs.List.{All}
use Rattle.std.specs.Vec.Iter.{into_iter_items}
use Rattle.subst.specs.Calls.Variables.{missing_variable, missing_range}
use Rattle.subst.specs.Range.{IsRangeIn}
use Rattle.subst_uses.specs.Report.{AreReports}
use Rattle.subst_uses.proofs.all_missing.reports.Given as goal

abbrev pub invariant-loop-e : goal.invariant-loop-e
invariant-loop-e l = record {
  all : l.fn.missing.items ≡ l.yielded ++ into_iter_items l.e-iterator;
  in_source : All (λ e. IsRangeIn l.source (missing_range e)) (into_iter_items l.e-iterator);
  reported : AreReports l.file (map missing_variable l.yielded) l.source (string_bytes l.text);
}
