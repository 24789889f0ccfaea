use Rattle.subst_yaml_reader.specs.Stream.{text_of, to_come}
use Rattle.subst_yaml.proofs.PassLemmas.{Passing}
use Rattle.subst_yaml.proofs.filled.filled_in.Given as goal

-- the pass has reached the events to come
abbrev pub invariant-loop : goal.invariant-loop
invariant-loop g l =
    Passing (g.F.Fill.answers l.filler) l.source (text_of l.events) (to_come l.events) l.is_changed
