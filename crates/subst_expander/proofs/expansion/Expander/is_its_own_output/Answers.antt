-- The bytes are in the format of the source's path.
use Rattle.subst_expander.proofs.expansion.Expander.is_its_own_output.Goals as goal

pub returns : goal.returns
returns c = record {
  itself = λ t entries.
      rw (c.format_of.ensures.format, c.deref.ensures, c.deref-2.ensures.value) at
      (c.are_unchanged.ensures.itself t entries);
}
