-- A lemma on lists of faults.
use Rattle.std.proofs.Common.{List}
use Rattle.subst_expander.specs.ValuesFaults.{HasOne}
use Rattle.subst_expander.specs.declared.fault.Fault.{Fault}

-- a weaker property holds for the fault of a list of one too
pub one_weaker : (P Q : Fault → Type 0) → ((it : Fault) → P it → Q it) → (faults : List Fault)
    → HasOne P faults → HasOne Q faults
one_weaker P Q weaker faults (it, is, at, holds) = (it, is, at, weaker it holds)
