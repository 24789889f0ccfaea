use Rattle.std.proofs.Common.{List, ◌++◌, drop}
use Rattle.subst_yaml.specs.Listed.{found_in, AreRefusalsOf, RefusalAt}
use Rattle.subst_yaml.specs.Paths.{start, trail_of}
use Rattle.subst_yaml.proofs.listing.refusals_of.Given as goal

-- the refusals so far, followed by those of the strings of the remaining events, are all refusals
abbrev pub invariant-loop-event : goal.invariant-loop-event
invariant-loop-event g l = (more : List RefusalAt)
    → AreRefusalsOf (g.F.Fill.answers l.filler) (found_in l.text (trail_of l.trail) (drop l.event-index l.events))
    more
    → AreRefusalsOf (g.F.Fill.answers l.filler) (found_in l.text start l.events) (l.all.items ++ more)
