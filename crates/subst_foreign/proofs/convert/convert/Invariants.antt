-- The template, with the pending bytes, and the refused forms are those of the text up to the rest.
use Rattle.std.proofs.Common.{length}
use Rattle.subst_foreign.proofs.ReadingLemmas.{Waits}
use Rattle.subst_foreign.specs.Reading.{grammar_of}
use Rattle.subst_foreign.proofs.convert.convert.Given as goal

abbrev pub invariant-loop-special : goal.invariant-loop-special
invariant-loop-special g l =
    Waits (grammar_of g.N.Names.all g.N.Names.counts l.fn.style) l.fn.style.missing l.fn.text l.template.items
    l.pending l.rest l.refused.items l.depth l.outermost

abbrev pub decreases-loop-special : goal.decreases-loop-special
decreases-loop-special g l = length l.rest
