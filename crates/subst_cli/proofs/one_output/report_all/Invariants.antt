-- After the first refusal, the exit status has risen.
use Rattle.std.proofs.Common.{◌≡◌, ◌<◌, ◌⊎◌}
use Rattle.subst_cli.specs.Status.{Raises}
use Rattle.subst_cli.proofs.one_output.report_all.Given as goal
use Rattle.subst_filter_lib.specs.declared.status.TheConstants.{REFUSED}

abbrev pub invariant-loop-it : goal.invariant-loop-it
invariant-loop-it l = ((l.it-index ≡ 0) × (l.report.worst ≡ l.fn.report.worst))
    ⊎ ((0 < l.it-index) × Raises l.fn.report.worst l.report.worst REFUSED)
