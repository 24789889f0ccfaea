-- The list has the same parts, and the expansion has visited its parts before the index.
use Rattle.std.proofs.Common.{◌≡◌, length, ◌-◌, ◌≤◌}
use Rattle.subst_expand.specs.Context.{context_of}
use Rattle.subst_expand.proofs.LoopLemmas.{HasVisited}
use Rattle.subst_expand.proofs.expand.append_list.Given as goal

abbrev pub invariant-loop-part : goal.invariant-loop-part
invariant-loop-part g l =
    let context = context_of g.R.ReadValue.read g.R.ReadValue.is_read g.M.VariableMap.see
    (g.M.VariableMap.look_up l.variables) g.W.Output.holds g.W.Output.len g.W.Output.capacity in
    let parts = l.initial.list.parts in
    record {
      same : l.list.parts ≡ parts;
      within : l.at ≤ length parts;
      visited : HasVisited context l.source parts l.at l.initial.output l.output l.initial.list.turns
          l.list.turns;
    }

abbrev pub decreases-loop-part : goal.decreases-loop-part
decreases-loop-part g l = length l.initial.list.parts - l.at
