-- By the expansion of the cells, which is the value of the source's tree.
use Rattle.std.proofs.Common.{◌≡◌, sym, subst, rules}
use Rattle.subst_error.specs.ErrorFault.{expand_fault}
use Rattle.subst_indexed.proofs.StopLemmas.{agree_values}
use Rattle.subst_indexed.specs.Expansion.{Gives}
use Rattle.subst_indexed.specs.Slot.{values_of}
use Rattle.subst_indexed.specs.Template.{template_expansion}
use Rattle.subst_c.specs.Pairs.{pair_value}
use Rattle.subst_c.specs.RowValues.{AreValuesOf, bytes_of}
use Rattle.subst_c.proofs.EachLemmas.{refused_for_value}
use Rattle.subst_c.proofs.NumberedLemmas.{cells_given, tree_given, tree_missing}
use Rattle.subst_c.proofs.numbered.NumberedTemplate.append.Goals as goal

pub returns-in-Ok-clause-ok : goal.returns-in-Ok-clause-ok
returns-in-Ok-clause-ok c =
    let self = c.args.self.now in
    let names = self.names.list.items in
    let look = pair_value c.args.pairs.now in
    let list = c.deref.result.now in
    let are = subst (λ all. AreValuesOf (bytes_of names) look (values_of all)) (sym c.deref.ensures.value)
    c.in_ok-find_values.ensures
    in
    let (numbered, is) = c.cells.ensures.cells in
    let (x, gives, appended) = c.in-Ok.ensures.expands (values_of list) (agree_values list) in (
      x,
      cells_given self.template names (values_of list) look self.named are c.source.ensures.sentence numbered
          c.cells.result.now is x
          (subst (λ s. template_expansion c.cells.result.now s (values_of list) ≡ Gives x) c.source.ensures.source
          gives),
      appended,
    )

pub returns-in_err-bytes-in-Err-clause-err : goal.returns-in_err-bytes-in-Err-clause-err
returns-in_err-bytes-in-Err-clause-err c =
    let self = c.args.self.now in
    let names = self.names.list.items in
    let look = pair_value c.args.pairs.now in
    let list = c.deref-in-Err.result.now in
    let are = subst (λ all. AreValuesOf (bytes_of names) look (values_of all)) (sym c.deref-in-Err.ensures.value)
    c.in_ok-find_values.ensures
    in
    let (t, spells) = c.in_err-bytes-in-Err.ensures.sentence in
    let e = c.in_err-bytes-in-Err.field-0.0 in
    refused_for_value self.template look t c.from_residual-in_err-bytes-in-Err.result e
    c.from_residual-in_err-bytes-in-Err.ensures.1 spells
    (tree_missing self.template names (values_of list) look self.named are t spells (expand_fault e)
    (c.in_err-bytes-in-Err.ensures.value t spells))

pub returns-in_ok-extend_from_slice-in-Err-clause-ok :
    goal.returns-in_ok-extend_from_slice-in-Err-clause-ok
returns-in_ok-extend_from_slice-in-Err-clause-ok c =
    let self = c.args.self.now in
    let names = self.names.list.items in
    let look = pair_value c.args.pairs.now in
    let list = c.deref-in-Err.result.now in
    let are = subst (λ all. AreValuesOf (bytes_of names) look (values_of all)) (sym c.deref-in-Err.ensures.value)
    c.in_ok-find_values.ensures
    in
    let (t, spells) = c.in_ok-bytes-in-Err.ensures.sentence in
    let bytes = c.in_ok-bytes-in-Err.bytes.items in (
      bytes,
      tree_given self.template names (values_of list) look self.named are t spells bytes
          (c.in_ok-bytes-in-Err.ensures.value t spells),
      search rules,
    )
