-- The name is read at its span.
use Rattle.std.proofs.Common.{None, ap, sym, ◌∙◌, subst}
use Rattle.std.specs.Option.{option_map}
use Rattle.std.specs.Prelude.{slice_get}
use Rattle.subst_language.specs.Language.Sentence.{Spells}
use Rattle.subst_indexed.proofs.NameLemmas.{named, read_at}
use Rattle.subst_indexed.specs.Template.{cell_span, name_cells}
use Rattle.subst_indexed.proofs.template.IndexedTemplate.name.Goals as goal

pub returns-in_err-span : goal.returns-in_err-span
returns-in_err-span c = record {
  name = λ t spells.
      let (names, is) = c.self.invariant in
      let none = named c.self.inside.source.now names c.self.inside.cells.items is t
      (subst (Spells t) (sym c.self.view_is) spells) c.args.number None
      (c.in_err-span.ensures ∙ ap (λ cells. option_map cell_span (slice_get (name_cells cells) c.args.number))
      c.deref.ensures.value)
      in
      ap (option_map (λ name. name.now)) c.from_residual.ensures ∙ none;
}

pub returns : goal.returns
returns c = record {
  name = λ t spells.
      let (names, is) = c.self.invariant in
      let found = named c.self.inside.source.now names c.self.inside.cells.items is t
      (subst (Spells t) (sym c.self.view_is) spells) c.args.number _
      (c.in_ok-span.ensures ∙ ap (λ cells. option_map cell_span (slice_get (name_cells cells) c.args.number))
      c.deref.ensures.value)
      in
      read_at c.self.inside.source.now c.in_ok-span.span c.get.result found.0 c.get.ensures.lookup ∙ found.1;
}
