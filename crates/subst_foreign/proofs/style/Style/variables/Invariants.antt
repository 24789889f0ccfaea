-- The variables so far are those of the text up to the rest.
use Rattle.std.proofs.Common.{length, map}
use Rattle.subst_foreign.proofs.ListingLemmas.{Lists}
use Rattle.subst_foreign.specs.Reading.{grammar_of, variable_of}
use Rattle.subst_foreign.proofs.style.Style.variables.Given as goal

abbrev pub invariant-loop-special : goal.invariant-loop-special
invariant-loop-special g l =
    Lists (grammar_of g.N.Names.all g.N.Names.counts l.fn.self)
    l.fn.source l.rest (map variable_of l.variables.items) l.depth

abbrev pub decreases-loop-special : goal.decreases-loop-special
decreases-loop-special g l = length l.rest
