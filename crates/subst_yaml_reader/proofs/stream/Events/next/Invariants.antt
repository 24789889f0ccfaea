use Rattle.std.proofs.Common.{◌≡◌}
use Rattle.subst_yaml_reader.specs.Stream.{text_of, to_come}
use Rattle.subst_yaml_reader.proofs.stream.Events.next.Given as goal

abbrev pub invariant-loop-self : goal.invariant-loop-self
invariant-loop-self l = (to_come l.self ≡ to_come l.initial.self) × (text_of l.self ≡ text_of l.initial.self)

abbrev pub decreases-loop-self : goal.decreases-loop-self
decreases-loop-self l = l.self.turns
