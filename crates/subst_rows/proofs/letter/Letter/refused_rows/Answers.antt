-- The rows are those for which the template that is bound to the columns is refused.
use Rattle.subst_rows.proofs.LetterLemmas.{bound_values, of_letter}
use Rattle.subst_rows.specs.Letter.{FillsAll}
use Rattle.std.specs.Prelude.{nat_lt}
use Rattle.subst_rows.proofs.letter.Letter.refused_rows.Goals as goal

pub returns-in-Ok-refused_rows-clause-ok : goal.returns-in-Ok-refused_rows-clause-ok
returns-in-Ok-refused_rows-clause-ok c fixed fallback are =
    let opened = c.in_ok-rows.rows in
    let found = c.in-Ok.ensures in
    let values = bound_values c.args.self.now fixed fallback are opened c.in_ok-rows.ensures.ok _
    (rw c.deref.ensures.value found) c.bound.result c.bound.ensures.template c.bound.ensures.sources in
    let told = c.in-Ok-refused_rows.ensures.ok fixed fallback values in (
      told.0,
      (
        opened,
        c.in_ok-rows.ensures.ok,
        of_letter c.args.self.now fixed fallback are opened c.in_ok-rows.ensures.ok _
            (rw c.deref.ensures.value found) c.bound.result c.bound.ensures.template c.bound.ensures.sources
            (λ s look_of. FillsAll s look_of opened told.0 (nat_lt 0 c.in-Ok-refused_rows.refused.count)) told.1,
      ),
    )
