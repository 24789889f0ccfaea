use Rattle.std.proofs.Common.{◌≡◌, ◌∙◌, ◌+◌, Some, None, length, sym}
use Rattle.subst_yaml_reader.proofs.TurnLemmas.{plain_ends, plain_goes_on}
use Rattle.subst_yaml_reader.proofs.runs.after_plain_lines.Goals as goal
use Rattle.subst_yaml_reader.specs.Runs.{after_blanks, next_line}

pub returns-in-None : goal.returns-in-None
returns-in-None c =
    let ends : next_line c.args.outer (after_blanks c.loop-turn.rest.now) ≡ None = cc (c.in-None.ensures.none) in
    sym (c.loop-turn.invariant
    ∙ plain_ends (length c.args.text.now + 1) c.loop-turn.turn c.args.outer c.loop-turn.rest.now
    c.loop-turn-test.true ends)

pub loop-turn-preserved : goal.loop-turn-preserved
loop-turn-preserved c =
    let goes : next_line c.args.outer (after_blanks c.loop-turn.rest.now) ≡ Some c.in-Some.line.now
    = cc (c.in-Some.ensures.some) in
    let step = plain_goes_on (length c.args.text.now + 1) c.loop-turn.turn c.args.outer c.loop-turn.rest.now
    c.in-Some.line.now c.loop-turn-test.true goes in
    cc
