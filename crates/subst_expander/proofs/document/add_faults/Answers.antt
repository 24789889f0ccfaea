-- Each fault is appended with its span.
use Rattle.std.proofs.Common.{◌++◌, ◌∷◌, [], ◌∙◌, ap, append_assoc, refl, subst}
use Rattle.std.proofs.lemmas.Slice.Zip.{all_zipped_more}
use Rattle.std.specs.List.{AllZip}
use Rattle.subst_expander.specs.Documents.{IsReported}
use Rattle.subst_expander.specs.declared.fault.Fault.{Fault}
use Rattle.subst_expander.proofs.ListLemmas.{zip_yielded}
use Rattle.subst_expander.proofs.document.add_faults.Goals as goal

pub loop-fault-preserved : goal.loop-fault-preserved
loop-fault-preserved c =
    let l = c.loop-fault in
    let (reported, added, are) = l.invariant in
    let it : Fault = record {
      path = c.in_ok-from_str.field-0;
      range = c.in-Some.range;
      cause = c.in-Some.fault.cause;
    } in (
      reported ++ it ∷ [],
      c.in_ok-push.ensures.items ∙ ap (λ faults. faults ++ it ∷ []) added
          ∙ append_assoc c.args.all.now.items reported (it ∷ []),
      all_zipped_more (IsReported c.args.path.now) l.yielded reported (c.in-Some.fault, c.in-Some.range) it are
          (c.in_ok-from_str.ensures.ok, refl, refl),
    )

pub returns-clause-reported : goal.returns-clause-reported
returns-clause-reported c finds =
    let l = c.loop-fault in
    let (reported, added, are) = l.invariant in
    let places = c.in_ok-places.places in
    let second = c.zip-fault-items.ensures.second in
    let all = zip_yielded c.args.faults places c.into_iter-fault-iterator.result l.fault-iterator
    c.next.new.self l.yielded c.next.result (cc c.into_iter-fault-iterator.ensures.into_iter_gives)
    (cc c.into_iter-fault-iterator.ensures.into_iter_gives) (cc second.0) (cc second.1) l.yielded_by
    c.next.ensures.steps c.in-None.is in (
      reported,
      added,
      (
        places.items,
        rw (c.deref-2.ensures.value, c.in_ok-ranges.ensures, c.deref.ensures.value) at
            (c.in_ok-places.ensures.places finds),
        subst (λ pairs. AllZip (IsReported c.args.path.now) pairs reported) all are,
      ),
    )
