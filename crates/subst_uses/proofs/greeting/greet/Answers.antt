-- The output of the source is computed, so there is no fault.
use Rattle.std.proofs.Common.{refl, string_bytes}
use Rattle.subst.proofs.Calling.{alone_as_read, computed_gives, given_as_read}
use Rattle.subst_uses.proofs.greeting.greet.Goals as goal

pub returns-clause-ok : goal.returns-clause-ok
returns-clause-ok c =
    given_as_read (λ greeting. string_bytes greeting) _ _ _ c.substitute.result
    (computed_gives _ _ _ refl) (c.substitute.ensures.answer (λ v. v) (λ v. refl))

pub returns-clause-err : goal.returns-clause-err
returns-clause-err c =
    alone_as_read (λ greeting. string_bytes greeting) _ _ _ c.substitute.result
    (computed_gives _ _ _ refl) (c.substitute.ensures.answer (λ v. v) (λ v. refl))
