-- Any answer is allowed, and the range is at the start.
use Rattle.std.proofs.lemmas.Str.{IsCharBoundary-start}
use Rattle.subst_yaml_filled.proofs.chosen.ChosenFill.refusal.Goals as goal

pub returns : goal.returns
returns c = rw c.refused.ensures (record {
  answer = tt;
  refusal_range = (IsCharBoundary-start _ c.utf8.source, IsCharBoundary-start _ c.utf8.source);
})
