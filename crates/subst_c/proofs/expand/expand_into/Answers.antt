-- The bytes, the missing variable or the break of an expansion are those of the cells.
use Rattle.std.proofs.Common.{rules, arith, sym, ◌∙◌}
use Rattle.subst_c.proofs.ExpandedLemmas.{agree_given, expands_stopped, expands_too_long, expands_whole, stop_asks, stop_breaks}
use Rattle.subst_c.specs.Values.{given_values}
use Rattle.subst_c.proofs.expand.expand_into.Goals as goal

pub returns-then-buffer-length-clause-answer : goal.returns-then-buffer-length-clause-answer
returns-then-buffer-length-clause-answer c =
    let values = c.args.values.now in
    let (x, gives, put) = c.in-Ok.ensures.expands (given_values values) (agree_given values) in
    expands_too_long c.args.cells.now c.args.source.now (given_values values) _ _ _ _ x gives put.0
    (search (rules, arith))

pub returns-else-buffer-length-clause-answer : goal.returns-else-buffer-length-clause-answer
returns-else-buffer-length-clause-answer c =
    let values = c.args.values.now in
    let (x, gives, put) = c.in-Ok.ensures.expands (given_values values) (agree_given values) in
    expands_whole c.args.cells.now c.args.source.now (given_values values) _ _ _ _ x gives put.0
    (put.1 (search (rules, arith)))

pub returns-in-Err-clause-answer : goal.returns-in-Err-clause-answer
returns-in-Err-clause-answer c =
    let values = c.args.values.now in
    rw (c.refuse.ensures.number, c.refuse.ensures.fault)
    (expands_stopped c.args.cells.now c.args.source.now (given_values values) _ _ c.in-Err.stop _ _ _ _
    (c.in-Err.ensures.expands (given_values values) (agree_given values))
    (c.any_cells_are_harmless.ensures.harmless c.args.source.now c.args.cells.now (given_values values)))

pub returns-in-Err-clause-broken : goal.returns-in-Err-clause-broken
returns-in-Err-clause-broken c is =
    let values = c.args.values.now in
    stop_breaks _ _ _ c.in-Err.stop (c.in-Err.ensures.expands (given_values values) (agree_given values))
    (sym c.refuse.ensures.number ∙ is)

pub returns-in-Err-clause-asks : goal.returns-in-Err-clause-asks
returns-in-Err-clause-asks c is =
    let values = c.args.values.now in
    stop_asks _ _ _ c.in-Err.stop (c.in-Err.ensures.expands (given_values values) (agree_given values))
    (sym c.refuse.ensures.number ∙ is)
