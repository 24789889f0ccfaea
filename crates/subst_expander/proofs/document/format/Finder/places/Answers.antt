-- Each span is that of the token.
use Rattle.std.proofs.Common.{inr, rules, tests}
use Rattle.std.proofs.lemmas.Iterator.{items_from_collect, YieldsList-from_map, YieldsList-from_slice}
use Rattle.std.proofs.lemmas.Result.{IfOk-weaker}
use Rattle.subst_expander.proofs.document.format.Finder.places.Goals as goal

pub returns-in-None-clause-places : goal.returns-in-None-clause-places
returns-in-None-clause-places c finds =
    IfOk-weaker c.collect.result _ _ (λ places. inr) (items_from_collect _ c.collect.ensures.ran
    (YieldsList-from_map _ (λ _. c.args.token) (YieldsList-from_slice c.args.ranges.now cc) c.map.ensures.closure
    (λ x r q k. search (rules, tests))))
