-- The refusal is that of the document with every name.
use Rattle.std.proofs.Common.{refl}
use Rattle.subst_c.proofs.document.of_yaml.names.Goals as goal

pub returns : goal.returns
returns c = c.in_ok-first_refusal-in-None.ensures (λ v. v) (λ v. refl)
