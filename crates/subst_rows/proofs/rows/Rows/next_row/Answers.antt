-- By the next row of the source.
use Rattle.subst_rows.proofs.rows.Rows.next_row.Goals as goal

pub returns-clause-row : goal.returns-clause-row
returns-clause-row c = rw (← c.self.view_is) (c.next_of-next.ensures.row c.self.inside.failed c.match-matches.self)
