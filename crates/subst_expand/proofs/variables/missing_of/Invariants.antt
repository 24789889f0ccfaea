-- The listed variables, and the missing ones of the parts visited from here on, are all missing ones.
use Rattle.std.proofs.Common.{◌≤◌, ◌-◌, length}
use Rattle.subst_language.specs.Calls.VariableMap.{ByNames}
use Rattle.subst_expand.specs.Packed.{unpacked_parts}
use Rattle.subst_expand.proofs.VariablesLemmas.{ListsSoFar}
use Rattle.subst_expand.proofs.variables.missing_of.Given as goal

abbrev pub invariant-loop-part : goal.invariant-loop-part
invariant-loop-part g l =
    let parts = unpacked_parts g.O.Offset.value l.packed in
    record {
      within : l.at ≤ length parts;
      so_far : ByNames (g.M.VariableMap.look_up l.variables)
          (λ look. ListsSoFar parts l.source look l.list.items l.at);
    }

abbrev pub decreases-loop-part : goal.decreases-loop-part
decreases-loop-part g l = length l.packed - l.at
