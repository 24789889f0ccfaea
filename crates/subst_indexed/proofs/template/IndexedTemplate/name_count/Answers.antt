-- A name cell for each name.
use Rattle.std.proofs.Common.{length, sym, ap, ◌∙◌, subst}
use Rattle.subst_language.specs.Language.Sentence.{Spells}
use Rattle.subst_indexed.proofs.NameLemmas.{names_counted}
use Rattle.subst_indexed.specs.Template.{name_cells}
use Rattle.subst_indexed.proofs.template.IndexedTemplate.name_count.Goals as goal

pub returns : goal.returns
returns c = record {
  count = λ t spells.
      let (names, is) = c.self.invariant in
      c.name_count.ensures ∙ ap (λ cells. length (name_cells cells)) c.deref.ensures.value
      ∙ names_counted c.self.inside.source.now names c.self.inside.cells.items is t
      (subst (Spells t) (sym c.self.view_is) spells);
}
