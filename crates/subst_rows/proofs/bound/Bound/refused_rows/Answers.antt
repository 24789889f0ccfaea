-- The template is expanded for the rows so far.
use Rattle.std.proofs.Common.{refl}
use Rattle.subst_rows.proofs.LetterLemmas.{all_checked, begin_check, keeps_then, one_checked, one_counted, values_at}
use Rattle.subst_rows.proofs.bound.Bound.refused_rows.Goals as goal

pub loop-output-init : goal.loop-output-init
loop-output-init c = record {
  kept = record { head = refl; nested = refl; names = refl };
  so = λ fixed fallback are. begin_check _ _ _;
}

pub returns-in-Ended : goal.returns-in-Ended
returns-in-Ended c = record {
  ok = λ fixed fallback are.
      let told = c.in_ok-next_output.ensures.outcome fixed fallback
      (values_at _ _ _ _ fixed fallback c.loop-output.invariant.kept.head are) in
      let ended = rw c.in-Ended.is at told in
      all_checked _ _ _ _ _ (c.loop-output.invariant.so fixed fallback are) ended.0;
}

pub loop-output-smaller-in-Given : goal.loop-output-smaller-in-Given
loop-output-smaller-in-Given c = rw c.in-Given.is at c.in_ok-next_output.ensures.fewer

pub loop-output-preserved-in-Given : goal.loop-output-preserved-in-Given
loop-output-preserved-in-Given c = record {
  kept = keeps_then _ _ _ c.loop-output.invariant.kept c.next_output.ensures.kept;
  so = λ fixed fallback are.
      let told = c.in_ok-next_output.ensures.outcome fixed fallback
      (values_at _ _ _ _ fixed fallback c.loop-output.invariant.kept.head are) in
      one_checked _ _ _ _ _ (c.loop-output.invariant.so fixed fallback are) _ _ _ (rw c.in-Given.is at told);
}

pub loop-output-smaller : goal.loop-output-smaller
loop-output-smaller c = rw c.in-Refused.is at c.in_ok-next_output.ensures.fewer

pub loop-output-preserved : goal.loop-output-preserved
loop-output-preserved c = record {
  kept = keeps_then _ _ _ c.loop-output.invariant.kept c.next_output.ensures.kept;
  so = λ fixed fallback are.
      let told = c.in_ok-next_output.ensures.outcome fixed fallback
      (values_at _ _ _ _ fixed fallback c.loop-output.invariant.kept.head are) in
      one_counted _ _ _ _ _ (c.loop-output.invariant.so fixed fallback are) _ _ _ _ _
      (rw c.in-Refused.is at told) c.in_ok-add-in-Refused.ensures;
}
