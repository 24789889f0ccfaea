-- The outputs of the rows so far are written, but for the pending bytes.
use Rattle.std.proofs.Common.{refl}
use Rattle.std.proofs.lemmas.Result.{on_ok_weaker}
use Rattle.subst_rows.proofs.LetterLemmas.{all_written, as_written, begin, keeps_then, one_given, one_refused, one_written, some_written, values_at}
use Rattle.subst_rows.proofs.bound.Bound.write.Goals as goal

pub returns-in_err-next_output-clause-some : goal.returns-in_err-next_output-clause-some
returns-in_err-next_output-clause-some g c fixed fallback are =
    as_written _ _ _ _ _ _ _ _ _ _ (c.loop-pending.invariant.so fixed fallback are)

pub returns-in-Ended-clause-all : goal.returns-in-Ended-clause-all
returns-in-Ended-clause-all g c fixed fallback are =
    let told = c.in_ok-next_output.ensures.outcome fixed fallback
    (values_at _ _ _ _ fixed fallback c.loop-pending.invariant.kept.head are) in
    let so = c.loop-pending.invariant.so fixed fallback are in
    let ended = rw c.in-Ended.is at told in
    on_ok_weaker c.finish.result (λ appended. all_written _ _ _ _ _ _ _ _ _ _ so _ ended.0 appended)
    (rw c.deref.ensures.value at c.finish.ensures.ok)

pub returns-in-Ended-clause-some : goal.returns-in-Ended-clause-some
returns-in-Ended-clause-some g c fixed fallback are =
    some_written _ _ _ _ _ _ _ _ _ _ (c.loop-pending.invariant.so fixed fallback are) _
    (rw c.deref.ensures.value at c.finish.ensures.prefix)

pub returns-in_err-add-in-Given-clause-some : goal.returns-in_err-add-in-Given-clause-some
returns-in_err-add-in-Given-clause-some g c fixed fallback are =
    as_written _ _ _ _ _ _ _ _ _ _ (c.loop-pending.invariant.so fixed fallback are)

pub returns-in_err-write_if_full-in-Given-clause-some : goal.returns-in_err-write_if_full-in-Given-clause-some
returns-in_err-write_if_full-in-Given-clause-some g c fixed fallback are =
    let told = c.in_ok-next_output.ensures.outcome fixed fallback
    (values_at _ _ _ _ fixed fallback c.loop-pending.invariant.kept.head are) in
    let so = c.loop-pending.invariant.so fixed fallback are in
    let more = one_given _ _ _ _ _ _ _ _ _ _ so _ _ _ _ (rw c.in-Given.is at told) c.clear.ensures.items
    (rw c.deref-in-Given.ensures.value at c.in_ok-add-in-Given.ensures) in
    some_written _ _ _ _ _ _ _ _ _ _ more _ c.in_err-write_if_full-in-Given.ensures.err

pub returns-in-Refused-2-clause-some : goal.returns-in-Refused-2-clause-some
returns-in-Refused-2-clause-some g c fixed fallback are =
    as_written _ _ _ _ _ _ _ _ _ _ (c.loop-pending.invariant.so fixed fallback are)

pub loop-pending-init : goal.loop-pending-init
loop-pending-init g c = record {
  kept = record { head = refl; nested = refl; names = refl };
  so = λ fixed fallback are. rw c.new-pending.ensures.items (begin _ _ _ _ _ _);
}

pub loop-pending-smaller-in-Continue-branch-4 : goal.loop-pending-smaller-in-Continue-branch-4
loop-pending-smaller-in-Continue-branch-4 g c = rw c.in-Given.is at c.in_ok-next_output.ensures.fewer

pub loop-pending-preserved-in-Continue-branch-4 : goal.loop-pending-preserved-in-Continue-branch-4
loop-pending-preserved-in-Continue-branch-4 g c = record {
  kept = keeps_then _ _ _ c.loop-pending.invariant.kept c.next_output.ensures.kept;
  so = λ fixed fallback are.
      let told = c.in_ok-next_output.ensures.outcome fixed fallback
      (values_at _ _ _ _ fixed fallback c.loop-pending.invariant.kept.head are) in
      let so = c.loop-pending.invariant.so fixed fallback are in
      let more = one_given _ _ _ _ _ _ _ _ _ _ so _ _ _ _ (rw c.in-Given.is at told) c.clear.ensures.items
      (rw c.deref-in-Given.ensures.value at c.in_ok-add-in-Given.ensures) in
      let written = c.in_ok-write_if_full-in-Given.ensures.ok in
      one_written _ _ _ _ _ _ _ _ _ _ more written.0 _ _ written.1 written.2;
}

pub loop-pending-smaller : goal.loop-pending-smaller
loop-pending-smaller g c = rw c.in-Refused.is at c.in_ok-next_output.ensures.fewer

pub loop-pending-preserved : goal.loop-pending-preserved
loop-pending-preserved g c = record {
  kept = keeps_then _ _ _ c.loop-pending.invariant.kept c.next_output.ensures.kept;
  so = λ fixed fallback are.
      let told = c.in_ok-next_output.ensures.outcome fixed fallback
      (values_at _ _ _ _ fixed fallback c.loop-pending.invariant.kept.head are) in
      one_refused _ _ _ _ _ _ _ _ _ _ (c.loop-pending.invariant.so fixed fallback are) _ _ _ _
      (rw c.in-Refused.is at told) c.if-layout.true;
}
