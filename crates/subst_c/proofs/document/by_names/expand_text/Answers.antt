-- The document is filled in from the pairs of its names and the values with the same number.
use Rattle.std.proofs.Common.{Err, inl, inr, ◌∙◌, map, string_bytes}
use Rattle.subst_indexed.specs.Numbering.{look_of}
use Rattle.subst_c.specs.DocumentNames.{HasNames, every_name}
use Rattle.subst_c.specs.Values.{given_values}
use Rattle.subst_c.proofs.BufferLemmas.{fills_as}
use Rattle.subst_c.proofs.DocumentLemmas.{fault_by, filled_by}
use Rattle.subst_c.proofs.DocumentNamesLemmas.{are_distinct, by_number, sets_as}
use Rattle.subst_c.proofs.document.by_names.expand_text.Goals as goal

pub returns-in-Err-clause-fault : goal.returns-in-Err-clause-fault
returns-in-Err-clause-fault g c =
    sets_as (λ it is. inl is)
    (fault_by g.D.DocumentFormat.format every_name c.args.source.now (Err c.in-Err.e) c.in-Err.ensures _ _ _
    c.refuse.ensures.refused c.refuse.ensures.fault_kept)

pub pairs_by_number-requires : goal.pairs_by_number-requires
pairs_by_number-requires g c =
    rw c.deref.ensures.value (are_distinct _ c.in-Ok.ensures.used c.in-Ok.ensures.once)

pub invariant_of-pairs : goal.invariant_of-pairs
invariant_of-pairs g c = record {
  texts = rw (c.pairs_of.ensures, c.deref-2.ensures.value) (c.in-Ok-pairs_by_number.ensures.texts c.requires);
}

pub returns-clause-buffer : goal.returns-clause-buffer
returns-clause-buffer g c =
    let format = g.D.DocumentFormat.format in
    let s = c.args.source.now in
    let names = map string_bytes c.deref.result.now in
    let has : HasNames format s names = rw c.deref.ensures.value c.in-Ok.ensures in
    let values = given_values c.args.values.now in
    let filled = by_number format s names values _ _ c.fill_in.result c.in-Ok-pairs_by_number.ensures.value
    (c.pairs_of.ensures ∙ c.deref-2.ensures.value) c.fill_in.ensures in
    fills_as (λ x is. (names, has, filled_by format (look_of names values) s c.fill_in.result filled x is))
    c.deliver.ensures.buffer

pub returns-clause-fault : goal.returns-clause-fault
returns-clause-fault g c =
    let format = g.D.DocumentFormat.format in
    let s = c.args.source.now in
    let names = map string_bytes c.deref.result.now in
    let has : HasNames format s names = rw c.deref.ensures.value c.in-Ok.ensures in
    let values = given_values c.args.values.now in
    let filled = by_number format s names values _ _ c.fill_in.result c.in-Ok-pairs_by_number.ensures.value
    (c.pairs_of.ensures ∙ c.deref-2.ensures.value) c.fill_in.ensures in
    sets_as (λ it is. inr (names, has, is))
    (fault_by format (look_of names values) s c.fill_in.result filled _ _ _ c.deliver.ensures.refused
    c.deliver.ensures.fault_kept)
