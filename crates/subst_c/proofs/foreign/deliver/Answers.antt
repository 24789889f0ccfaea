-- The bytes written are the template.
use Rattle.subst_c.proofs.BufferLemmas.{fills_with}
use Rattle.subst_c.proofs.foreign.deliver.Goals as goal

pub returns-in-Ok-clause-buffer : goal.returns-in-Ok-clause-buffer
returns-in-Ok-clause-buffer g c =
    fills_with (rw c.missing_of.ensures at c.in-Ok.ensures.template)
    (rw c.deref.ensures.value at c.deliver.ensures.buffer)
