-- The answers are read unchanged.
use Rattle.std.proofs.Common.{refl}
use Rattle.subst.proofs.Calling.{answer_as_read}
use Rattle.subst_uses.proofs.maps.texts.shell_map.Goals as goal

pub returns : goal.returns
returns c = answer_as_read _ _ _ (c.substitute.ensures.answer (λ v. v) (λ v. refl))
