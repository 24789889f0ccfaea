-- The search has made one read a turn since its start, and each turn advances towards the end of the source.
use Rattle.std.proofs.Common.{◌≡◌, ◌+◌, ◌-◌, ◌≤◌, length}
use Rattle.subst_parse.proofs.ScanLemmas.{IsScan}
use Rattle.subst_parse.proofs.scan.closes_all.Given as goal

abbrev pub invariant-loop-unclosed : goal.invariant-loop-unclosed
invariant-loop-unclosed l = record {
  same : l.tape.source ≡ l.initial.tape.source;
  scan : IsScan l.initial.tape.source.now l.from l.count l.at l.unclosed;
  grows : l.initial.tape.reads ≤ l.tape.reads;
  counted : l.tape.reads + l.from ≤ l.initial.tape.reads + l.at;
  inside : l.tape.reads + l.from ≤ l.initial.tape.reads + length l.initial.tape.source.now;
}

abbrev pub decreases-loop-unclosed : goal.decreases-loop-unclosed
decreases-loop-unclosed l = length l.initial.tape.source.now + 2 - l.at
