-- No text is left.
use Rattle.std.proofs.Common.{◌+◌, sym, ◌∙◌}
use Rattle.subst_rows.proofs.JsonLineLemmas.{none_left}
use Rattle.subst_rows.proofs.json_lines.next_line.Goals as goal

pub returns-clause-next : goal.returns-clause-next
returns-clause-next c =
    sym c.loop-rest.invariant.rows
    ∙ none_left (c.loop-rest.read + 1) c.loop-rest.rest.now c.loop-rest-test.ensures
