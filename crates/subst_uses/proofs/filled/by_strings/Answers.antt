-- The values are read as their bytes.
use Rattle.std.proofs.Common.{refl, string_bytes}
use Rattle.subst_uses.proofs.filled.by_strings.Goals as goal

pub returns : goal.returns
returns c = c.substitute_bytes.ensures.answer (λ v. string_bytes v) (λ v. refl)
