-- By the expansion of the cells, which is the value of the source's tree.
use Rattle.std.proofs.Common.{◌≡◌, None, ap, sym, ◌∙◌, subst}
use Rattle.subst_language.specs.Language.Sentence.{Spells}
use Rattle.subst_indexed.proofs.StopLemmas.{agree_values, all_known, known, named_stop, value_given, value_missing}
use Rattle.subst_indexed.specs.Parsed.{IsCellsOf}
use Rattle.subst_indexed.specs.Slot.{known_at, values_of}
use Rattle.subst_rows.proofs.RowLemmas.{row_value, same_missing}
use Rattle.subst_rows.proofs.row.append_output.Goals as goal

pub error_of-requires : goal.error_of-requires
error_of-requires g c =
    let list = c.deref.result.now in
    let (names, kept) = c.cells.ensures.cells in
    let is = subst (λ s. IsCellsOf s names c.cells.result.now) (sym c.source-source.ensures.source) kept in
    named_stop c.source-source.result.now names (values_of list) c.cells.result.now is
    (λ number. known_at known list number ≡ None) c.in-Err.stop _
    (all_known list) (c.in-Err.ensures.expands (values_of list) (agree_values list))

pub returns-in-Ok-clause-value : goal.returns-in-Ok-clause-value
returns-in-Ok-clause-value g c = λ head fixed fallback t spells bound over under.
    let list = c.deref.result.now in
    let s = c.source-source.result.now in
    let (names, kept) = c.cells.ensures.cells in
    let is = subst (λ s. IsCellsOf s names c.cells.result.now) (sym c.source-source.ensures.source) kept in
    let (x, gives, appended) = c.in-Ok.ensures.expands (values_of list) (agree_values list) in (
      x,
      sym (row_value t c.args.sources.now head (g.R.Row.cells c.args.row.now) fixed fallback c.name_count.result
          (values_of list) (c.name_count.ensures.count t spells) bound over under
          (λ number below. ap (λ it. values_of it number) c.deref.ensures.value
          ∙ c.in_ok-values.ensures number below))
          ∙ value_given s names (values_of list) c.cells.result.now is t
          (subst (Spells t) (sym c.source-source.ensures.source) spells) x gives,
      appended,
    )

pub returns-clause-value : goal.returns-clause-value
returns-clause-value g c = λ head fixed fallback t spells bound over under.
    let list = c.deref.result.now in
    let s = c.source-source.result.now in
    let (names, kept) = c.cells.ensures.cells in
    let is = subst (λ s. IsCellsOf s names c.cells.result.now) (sym c.source-source.ensures.source) kept in
    let missing = value_missing s names (values_of list) c.cells.result.now is t
    (subst (Spells t) (sym c.source-source.ensures.source) spells)
    (λ number. known_at known list number ≡ None) c.in-Err.stop _ (all_known list)
    (c.in-Err.ensures.expands (values_of list) (agree_values list))
    in
    let same = row_value t c.args.sources.now head (g.R.Row.cells c.args.row.now) fixed fallback c.name_count.result
    (values_of list) (c.name_count.ensures.count t spells) bound over under
    (λ number below. ap (λ it. values_of it number) c.deref.ensures.value
    ∙ c.in_ok-values.ensures number below)
    in
    same_missing _ _ _ _ c.error_of.ensures same missing
