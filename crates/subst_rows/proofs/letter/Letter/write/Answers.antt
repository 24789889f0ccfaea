-- The outputs of the rows are written by the template that is bound to the columns.
use Rattle.std.proofs.Common.{[], inl, inr, refl}
use Rattle.std.proofs.KnownBytes.{Appends-nil}
use Rattle.std.proofs.lemmas.Result.{on_ok_weaker}
use Rattle.subst_rows.proofs.LetterLemmas.{bound_values, of_letter}
use Rattle.subst_rows.specs.Letter.{FillsAll, FillsSome}
use Rattle.subst_rows.proofs.letter.Letter.write.Goals as goal

pub returns-in_err-columns-clause-some : goal.returns-in_err-columns-clause-some
returns-in_err-columns-clause-some g c fixed fallback are = ([], inl refl, (0, Appends-nil _))

pub returns-clause-all : goal.returns-clause-all
returns-clause-all g c fixed fallback are =
    let opened = c.in-Ok.rows in
    let found = c.in_ok-columns.ensures in
    let values = bound_values c.args.self.now fixed fallback are opened c.in-Ok.ensures.ok _
    (rw c.deref.ensures.value found) c.bound.result c.bound.ensures.template c.bound.ensures.sources in
    let told = c.write.ensures.all fixed fallback values in
    on_ok_weaker c.write.result (λ it. (
      it.0,
      it.1,
      (
        opened,
        c.in-Ok.ensures.ok,
        of_letter c.args.self.now fixed fallback are opened c.in-Ok.ensures.ok _
            (rw c.deref.ensures.value found) c.bound.result c.bound.ensures.template c.bound.ensures.sources
            (λ s look_of. FillsAll s look_of opened it.0 it.1) it.2,
      ),
      it.3,
      it.4,
    )) told

pub returns-clause-some : goal.returns-clause-some
returns-clause-some g c fixed fallback are =
    let opened = c.in-Ok.rows in
    let found = c.in_ok-columns.ensures in
    let values = bound_values c.args.self.now fixed fallback are opened c.in-Ok.ensures.ok _
    (rw c.deref.ensures.value found) c.bound.result c.bound.ensures.template c.bound.ensures.sources in
    let told = c.write.ensures.some fixed fallback values in (
      told.0,
      inr (
        opened,
        c.in-Ok.ensures.ok,
        of_letter c.args.self.now fixed fallback are opened c.in-Ok.ensures.ok _
            (rw c.deref.ensures.value found) c.bound.result c.bound.ensures.template c.bound.ensures.sources
            (λ s look_of. FillsSome s look_of opened told.0) told.1,
      ),
      told.2,
    )
