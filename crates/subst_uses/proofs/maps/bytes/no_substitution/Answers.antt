-- There are no values to read.
use Rattle.std.proofs.Common.{refl}
use Rattle.subst_uses.proofs.maps.bytes.no_substitution.Goals as goal

pub returns : goal.returns
returns c = c.substitute_bytes.ensures.answer (λ v. v) (λ v. refl)
