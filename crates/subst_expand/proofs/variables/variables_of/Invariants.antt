-- The listed variables, and those of the parts from here on, are all.
use Rattle.subst_expand.specs.Packed.{unpacked_parts}
use Rattle.subst_expand.proofs.VariablesLemmas.{TellsSoFar}
use Rattle.subst_expand.proofs.variables.variables_of.Given as goal

abbrev pub invariant-loop-part : goal.invariant-loop-part
invariant-loop-part g l =
    TellsSoFar (unpacked_parts g.O.Offset.value l.packed) l.source l.list.items l.part-index
