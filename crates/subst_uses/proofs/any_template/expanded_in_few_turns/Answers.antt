-- The visited parts are at most all parts of the source's tree, and these are at most the source's bytes.
use Rattle.std.proofs.Common.{length, ap, arith}
use Rattle.subst.specs.Calls.VariableMap.{look_up_of}
use Rattle.subst_uses.proofs.any_template.expanded_in_few_turns.Goals as goal

pub returns-clause-turns : goal.returns-clause-turns
returns-clause-turns g c = λ bytes reads.
    let look = look_up_of bytes (g.M.VariableMap.look_up c.args.variables.now) in
    let (t, spells) = c.expand_counted.ensures.sentence in
    let turns = c.expand_counted.ensures.at_most bytes reads t spells in
    let visited = c.turns_are_bounded.ensures.visited t look in
    let parts = c.turns_are_bounded.ensures.parts t in
    omega (arith, turns, visited, parts, ap length spells.spelled)
