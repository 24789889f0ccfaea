-- Each byte so far is in the class, and has been counted.
use Rattle.std.proofs.Common.{◌≡◌, ◌+◌, ◌-◌, ◌≤◌, length}
use Rattle.subst_parse.specs.ByteRun.{IsRun}
use Rattle.subst_parse.proofs.tape.Tape.first_outside.Given as goal

abbrev pub invariant-loop-self : goal.invariant-loop-self
invariant-loop-self g l = record {
  run : IsRun g.C.ByteClass.is_in l.initial.self.source.now l.from l.at;
  within : l.at ≤ length l.initial.self.source.now;
  same : l.self.source ≡ l.initial.self.source;
  counted : l.self.reads + l.from ≡ l.initial.self.reads + l.at;
}

abbrev pub decreases-loop-self : goal.decreases-loop-self
decreases-loop-self g l = length l.initial.self.source.now - l.at
