-- The parser is reading the source, and each byte before has been read at least once and at most three times.
use Rattle.std.proofs.Common.{◌≡◌, ◌+◌, ◌-◌, ◌*◌, ◌≤◌, length}
use Rattle.subst_parse.specs.Parsing.{ReadsOn}
use Rattle.subst_parse.proofs.parse.Parser.read_to_end.Given as goal

abbrev pub invariant-loop-self : goal.invariant-loop-self
invariant-loop-self g l = record {
  reading : ReadsOn g.S.Sink.holds g.S.Sink.limit l.initial.self l.self;
  same : l.self.tape.source ≡ l.initial.self.tape.source;
  low : l.initial.self.tape.reads + l.self.at ≤ l.self.tape.reads + l.initial.self.at;
  high : l.self.tape.reads + 3 * l.initial.self.at ≤ l.initial.self.tape.reads + 3 * l.self.at;
}

abbrev pub decreases-loop-self : goal.decreases-loop-self
decreases-loop-self g l = length l.initial.self.tape.source.now - l.self.at
