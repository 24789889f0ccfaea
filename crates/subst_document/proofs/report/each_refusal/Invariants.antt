-- The reports so far, with those of the refusals left, are those of all.
use Rattle.std.proofs.Common.{ℕ, List, ◌++◌, drop, string_bytes}
use Rattle.subst_document.specs.Report.{AreReports}
use Rattle.subst_document.proofs.report.each_refusal.Given as goal

abbrev pub invariant-loop-it : goal.invariant-loop-it
invariant-loop-it g l = (more : List ℕ)
    → AreReports (g.R.ReportFormat.reports l.file l.source) (drop l.it-index l.it-items) more
    → AreReports (g.R.ReportFormat.reports l.file l.source) l.it-items (string_bytes l.text ++ more)
