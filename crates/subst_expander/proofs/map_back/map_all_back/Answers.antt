-- A fault is mapped back to the variable that is found.
use Rattle.std.proofs.Common.{◌++◌, ◌∷◌, ◌∙◌, [], ap, subst, sym}
use Rattle.std.proofs.lemmas.Slice.Zip.{all_zipped_more}
use Rattle.std.specs.Option.{option_map}
use Rattle.subst.specs.Reading.{variable_of}
use Rattle.subst_expander.specs.MapBack.{counterpart_at, AreMapped, IsMappedAt}
use Rattle.subst_expander.proofs.map_back.map_all_back.Goals as goal

pub loop-fault-preserved : goal.loop-fault-preserved
loop-fault-preserved c =
    let l = c.loop-fault in
    let x = c.in-Some.fault in
    let it = c.in_ok-map_back.field-0 in
    let forms = c.args.chosen.now.forms in
    let counterparts = c.args.counterparts.now in
    let found = ap (option_map variable_of) (c.copied.ensures ∙ c.get-found.ensures.value) in
    let mapped = subst (λ o. IsMappedAt forms o x it) found c.in_ok-map_back.ensures in
    subst (AreMapped forms counterparts (l.yielded ++ x ∷ [])) (sym c.in_ok-push.ensures.items)
    (all_zipped_more (λ x it. IsMappedAt forms (counterpart_at counterparts x.range.start) x it) l.yielded
    l.all.items x it l.invariant mapped)
