use Rattle.std.proofs.Common.{◌≡◌, ◌++◌, drop, map}
use Rattle.subst_yaml.specs.Listed.{spelled_in, spelled_of}
use Rattle.subst_yaml.proofs.listing.strings_of.Given as goal

-- the strings so far, followed by those of the remaining events, are all strings
abbrev pub invariant-loop-event : goal.invariant-loop-event
invariant-loop-event l = spelled_in l.text l.events
    ≡ map spelled_of l.list.items ++ spelled_in l.text (drop l.event-index l.events)
