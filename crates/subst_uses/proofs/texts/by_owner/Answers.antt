-- The values are read as their bytes.
use Rattle.std.proofs.Common.{refl, string_bytes}
use Rattle.subst_uses.proofs.texts.by_owner.Goals as goal

pub returns : goal.returns
returns c = c.expand.ensures.value (λ v. string_bytes v) (λ v. refl)
