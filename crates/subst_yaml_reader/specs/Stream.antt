-- The events of a text, as a stream.
use Rattle.std.specs.Prelude.{ℕ, List, ◌++◌, drop, Option, option_map}
use Rattle.subst_yaml_reader.specs.Reader.{state_of}
use Rattle.subst_yaml_reader.specs.Reading.{events_from}
use Rattle.subst_yaml_reader.specs.State.{without_events}
use Rattle.subst_yaml_reader.specs.declared.event.Event.{Event}
use Rattle.subst_yaml_reader.specs.declared.stream.Events.{Events}

-- the whole text
abbrev pub text_of : Events → List ℕ
text_of e = e.source.now

-- the events that weren't returned yet: the rest of the latest turn's events, and the events of all turns
-- after it. The result is `None` if the text is refused
abbrev pub to_come : Events → Option (List Event)
to_come e = option_map (λ later. drop e.given e.reader.events.items ++ later)
    (events_from e.turns (without_events (state_of e.reader)) e.rest.now)
