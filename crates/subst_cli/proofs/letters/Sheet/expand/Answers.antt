-- The letter has the template, the rows' text and the values.
use Rattle.std.proofs.Common.{refl}
use Rattle.subst_cli.proofs.LetterLemmas.{sheet_run, sheet_values}
use Rattle.subst_expander.specs.Layers.{look_up_in}
use Rattle.subst_cli.specs.Run.{first_for, rest_for}
use Rattle.subst_cli.proofs.letters.Sheet.expand.Goals as goal

pub returns : goal.returns
returns g c = record {
  sheet =
      let options = c.args.self.now.options.now in
      let parsed = rw c.deref.ensures.value at c.in-Ok.ensures.ok in
      let names = rw parsed.1 at c.in_ok-names.ensures in
      let over = rw (c.deref-2.ensures.value, c.deref-3.ensures.value, c.in_ok-first.ensures.first)
      at c.in_ok-fixed.ensures in
      let under = rw (c.deref-4.ensures.value, c.deref-5.ensures.value, c.in_ok-first.ensures.rest)
      at c.in_ok-fallback.ensures in
      sheet_run c.expand_letter.result options c.args.self.now.rows c.args.read _ _ _ _ _ _ _ _ _
      c.expand_letter.ensures.letter (record {
        template = parsed.1;
        text_kept = c.deref-9.ensures.value;
        no_empty = refl;
        format = refl;
        nested = refl;
        names = rw c.deref-6.ensures.value names;
      }) (sheet_values _ _ parsed.0 parsed.1 (rw c.deref-6.ensures.value names)
      (look_up_in (first_for options c.args.read)) (look_up_in (rest_for options c.args.read))
      (rw (c.deref-6.ensures.value, c.deref-7.ensures.value) over)
      (rw (c.deref-6.ensures.value, c.deref-8.ensures.value) under));
}
