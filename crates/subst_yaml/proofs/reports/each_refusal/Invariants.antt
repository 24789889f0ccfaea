-- The reports so far, followed by those of the remaining refusals, are all reports.
use Rattle.std.proofs.Common.{ℕ, List, ◌++◌, drop, string_bytes}
use Rattle.subst_document.specs.Report.{AreReports}
use Rattle.subst_yaml.specs.Places.{IsFinderOf}
use Rattle.subst_yaml.specs.Report.{ReportsRefused}
use Rattle.subst_yaml.proofs.reports.each_refusal.Given as goal

abbrev pub invariant-loop-it : goal.invariant-loop-it
invariant-loop-it l = record {
  finder : IsFinderOf l.finder l.source;
  reports : (more : List ℕ) → AreReports (ReportsRefused l.file l.source) (drop l.it-index l.it-items) more
      → AreReports (ReportsRefused l.file l.source) l.it-items (string_bytes l.text ++ more);
}
