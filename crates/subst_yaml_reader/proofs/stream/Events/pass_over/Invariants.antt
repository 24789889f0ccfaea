use Rattle.std.proofs.Common.{◌≡◌, ◌++◌, List, option_map}
use Rattle.subst_yaml_reader.specs.Stream.{text_of, to_come}
use Rattle.subst_yaml_reader.specs.declared.event.Event.{Event}
use Rattle.subst_yaml_reader.proofs.stream.Events.pass_over.Given as goal

-- some events were read
abbrev pub invariant-loop : goal.invariant-loop
invariant-loop l = (text_of l.self ≡ text_of l.initial.self) × ((gone : List Event)
    × (to_come l.initial.self ≡ option_map (λ later. gone ++ later) (to_come l.self)))
