-- Each turn reads plain bytes and a token.
use Rattle.subst_foreign.proofs.ListingLemmas.{ends, passes, starts}
use Rattle.subst_foreign.proofs.style.Style.variables.Goals as goal

pub loop-special-init : goal.loop-special-init
loop-special-init g c = rw c.new-variables.ensures.items (starts _ c.args.source.now)

pub loop-special-preserved : goal.loop-special-preserved
loop-special-preserved g c =
    let (plain, step) = c.in-Some.ensures.some in
    passes _ _ _ _ _ _ _ _ _ _ c.loop-special.invariant plain step.is step.taken
    (c.in_ok-append_variable.ensures step.front) (c.next_depth-depth.ensures step.front)

pub returns : goal.returns
returns g c = record { listed = ends _ _ _ _ _ c.loop-special.invariant c.in_default.ensures.none }
