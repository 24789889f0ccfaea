-- The first expansion returns the output of the template.
use Rattle.std.proofs.Common.{refl, string_bytes}
use Rattle.subst_uses.proofs.cache.Cached.new.Goals as goal

pub invariant_of-result : goal.invariant_of-result
invariant_of-result c = λ t spells. (
  c.in_ok-needed.ensures.variables t spells,
  c.in_ok-output.ensures.value (λ v. string_bytes v) (λ v. refl) t spells,
)

pub returns-clause-value : goal.returns-clause-value
returns-clause-value c = λ t spells. c.in_ok-output.ensures.value (λ v. string_bytes v) (λ v. refl) t spells
