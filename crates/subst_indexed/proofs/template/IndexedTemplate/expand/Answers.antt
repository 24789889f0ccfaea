-- By the expansion of the cells, which is the value of the source's tree.
use Rattle.std.proofs.Common.{◌++◌, sym, ap, ◌∙◌, subst}
use Rattle.subst_language.specs.Language.Sentence.{Spells}
use Rattle.subst_language.specs.Language.Value.{Bytes}
use Rattle.subst_indexed.proofs.StopLemmas.{agree_values, all_known, named_stop, owned_fault, value_given, value_missing}
use Rattle.subst_indexed.specs.Parsed.{IsCellsOf}
use Rattle.subst_indexed.specs.Slot.{values_of}
use Rattle.subst_indexed.proofs.template.IndexedTemplate.expand.Goals as goal

pub error_of-requires : goal.error_of-requires
error_of-requires c =
    let values = c.args.values.now in
    let s = c.self.inside.source.now in
    let (names, kept) = c.self.invariant in
    let is = subst (IsCellsOf s names) (sym c.deref.ensures.value) kept in
    named_stop s names (values_of values) c.deref.result.now is _ c.in-Err.stop _ (all_known values)
    (c.in-Err.ensures.expands (values_of values) (agree_values values))

pub returns-in-Ok-clause-value : goal.returns-in-Ok-clause-value
returns-in-Ok-clause-value c = λ t spells.
    let values = c.args.values.now in
    let s = c.self.inside.source.now in
    let (names, kept) = c.self.invariant in
    let is = subst (IsCellsOf s names) (sym c.deref.ensures.value) kept in
    let (x, gives, appended) = c.in-Ok.ensures.expands (values_of values) (agree_values values) in
    value_given s names (values_of values) c.deref.result.now is t (subst (Spells t) (sym c.self.view_is) spells)
    x gives
    ∙ ap Bytes (sym (appended ∙ ap (λ it. it ++ x) c.in_ok-output.ensures.items))

pub returns-in-Err-clause-value : goal.returns-in-Err-clause-value
returns-in-Err-clause-value c = λ t spells.
    let values = c.args.values.now in
    let s = c.self.inside.source.now in
    let (names, kept) = c.self.invariant in
    let is = subst (IsCellsOf s names) (sym c.deref.ensures.value) kept in
    owned_fault _ _ _ _ c.into_owned.ensures.fault c.error_of.ensures
    (value_missing s names (values_of values) c.deref.result.now is t
    (subst (Spells t) (sym c.self.view_is) spells) _ c.in-Err.stop _ (all_known values)
    (c.in-Err.ensures.expands (values_of values) (agree_values values)))
