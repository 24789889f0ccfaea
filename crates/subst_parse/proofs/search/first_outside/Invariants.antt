-- Each byte so far is in the class.
use Rattle.std.proofs.Common.{◌-◌, ◌≤◌}
use Rattle.subst_parse.specs.ByteRun.{IsRun}
use Rattle.subst_parse.proofs.search.first_outside.Given as goal

abbrev pub invariant-loop-at : goal.invariant-loop-at
invariant-loop-at g l = record { run : IsRun g.C.ByteClass.is_in l.source l.from l.at; before : l.at ≤ l.to }

abbrev pub decreases-loop-at : goal.decreases-loop-at
decreases-loop-at g l = l.to - l.at
