use Rattle.std.proofs.Common.{◌≡◌, ◌++◌, option_map}
use Rattle.subst_yaml_reader.specs.Reading.{read}
use Rattle.subst_yaml_reader.specs.Stream.{text_of, to_come}
use Rattle.subst_yaml_reader.proofs.stream.read.Given as goal

-- the events so far are followed by those to come
abbrev pub invariant-loop : goal.invariant-loop
invariant-loop l = (text_of l.events ≡ l.source)
    × (read l.source ≡ option_map (λ later. l.list.items ++ later) (to_come l.events))
