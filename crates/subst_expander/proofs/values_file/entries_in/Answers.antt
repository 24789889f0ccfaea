-- The file is refused for its lines, or for its bytes.
use Rattle.std.proofs.Common.{refl}
use Rattle.subst_expander.proofs.values_file.entries_in.Goals as goal

pub returns-in-Err-clause-refused : goal.returns-in-Err-clause-refused
returns-in-Err-clause-refused c = rw c.in-Lines.is
    (refl, rw (c.in-Err.is, c.deref.ensures.value) at c.in_ok-entries-in-Lines.ensures.refused)

pub returns-in-Err-2-clause-refused : goal.returns-in-Err-2-clause-refused
returns-in-Err-2-clause-refused c = rw c.in-Value.is (
  refl,
  rw (c.in-Err-2.is, c.value_bytes.ensures, c.deref-in-Value.ensures.value)
      at c.in_ok-entries-in-Value.ensures.refused,
)
