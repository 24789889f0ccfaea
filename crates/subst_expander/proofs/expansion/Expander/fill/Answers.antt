-- The bytes are in the format of the source's path.
use Rattle.subst_expander.proofs.expansion.Expander.fill.Goals as goal

pub returns-clause-gives : goal.returns-clause-gives
returns-clause-gives c = λ entries are.
    rw (c.format_of.ensures.format, c.deref.ensures, c.deref-2.ensures.value) at
    (c.fill_as.ensures.gives entries are)

pub returns-clause-refused : goal.returns-clause-refused
returns-clause-refused c = λ entries are.
    rw (c.format_of.ensures.format, c.deref.ensures, c.deref-2.ensures.value) at
    (c.fill_as.ensures.refused entries are)
