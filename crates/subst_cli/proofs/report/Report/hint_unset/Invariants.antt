-- Hints leave the severity unchanged.
use Rattle.std.proofs.Common.{◌≡◌}
use Rattle.subst_cli.proofs.report.Report.hint_unset.Given as goal

abbrev pub invariant-loop-name : goal.invariant-loop-name
invariant-loop-name l = l.self.worst ≡ l.fn.self.worst
