-- The source is converted into a template, unless it has a refused form.
use Rattle.std.proofs.Common.{Some, inl, inr, subst}
use Rattle.subst.specs.Template.{IsTemplate}
use Rattle.subst_expander.specs.Faults.{AreForms}
use Rattle.subst_expander.specs.Fill.{grammar_in}
use Rattle.subst_expander.specs.MapBack.{counterpart_at, IsMappedAt, IsMappedIn}
use Rattle.subst_expander.specs.declared.fault.Fault.{Fault}
use Rattle.subst_expander.proofs.LayerLemmas.{same_grammar}
use Rattle.subst_expander.proofs.ListLemmas.{none_zipped, zipped_weaker}
use Rattle.subst_expander.proofs.MapBackLemmas.{mapped_in}
use Rattle.subst_expander.proofs.part.fill_chosen.Goals as goal

pub returns-in-Err : goal.returns-in-Err
returns-in-Err c = record {
  gives = λ entries are. tt;
  refused = λ entries are.
      let (some, forms) = rw c.in-Err.is at c.in_ok-template.ensures.refused in (
        some,
        inl (subst (λ g. AreForms g c.args.source.now c.in-Err.faults.items)
            (same_grammar c.args.variables entries c.args.chosen.now are) forms),
      );
}

pub returns-in-Ok-2-clause-gives : goal.returns-in-Ok-2-clause-gives
returns-in-Ok-2-clause-gives c = λ entries are. (
  c.in-Ok.template.items,
  subst (λ g. IsTemplate g c.args.chosen.now.missing c.args.source.now c.in-Ok.template.items)
      (same_grammar c.args.variables entries c.args.chosen.now are)
      (rw c.in-Ok.is at c.in_ok-template.ensures.template),
  rw (c.in-Ok-2.is, c.deref.ensures.value) at (c.in_ok-output.ensures.gives entries are),
)

pub returns-clause-refused : goal.returns-clause-refused
returns-clause-refused c = λ entries are.
    let chosen = c.args.chosen.now in
    let source = c.args.source.now in
    let template = c.in-Ok.template.items in
    let counterparts = c.in_ok-counterparts-in-Err-2.counterparts in
    let IsMapped : Fault → Fault → Type 0 =
    λ x it. IsMappedAt chosen.forms (counterpart_at counterparts x.range.start) x it in
    let same = same_grammar c.args.variables entries chosen are in
    let stands = subst (λ g. IsTemplate g chosen.missing source template) same
    (rw c.in-Ok.is at c.in_ok-template.ensures.template) in
    let (some, faults) =
    rw (c.in-Err-2.is, c.deref.ensures.value) at (c.in_ok-output.ensures.refused entries are) in
    let mapped = c.in_ok-map_all_back-in-Err-2.ensures in
    let are_in = rw c.deref-in-Err-2.ensures.value at c.in_ok-counterparts-in-Err-2.ensures in (
      λ none. some (none_zipped IsMapped _ _ mapped none),
      inr (
        template,
        stands,
        c.in-Err-2.faults.items,
        faults,
        zipped_weaker IsMapped (IsMappedIn _ source template) (λ x it is.
            subst (λ g. IsMappedIn g source template x it) same
            (mapped_in (grammar_in chosen (Some c.args.variables)) source template counterparts x it are_in is))
            _ _ mapped,
      ),
    )
