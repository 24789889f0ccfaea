-- The bracket is that of the rest, at the depth after the bytes before it.
use Rattle.std.proofs.Common.{◌≡◌, ◌≤◌, drop}
use Rattle.subst_expander.specs.Mistakes.{bracket_past}
use Rattle.subst_expander.specs.declared.document.mistake.Part.TheVariants.{Outside}
use Rattle.subst_expander.proofs.document.mistake.past_levels.Given as goal

abbrev pub invariant-loop-at : goal.invariant-loop-at
invariant-loop-at l =
    (l.depth ≤ 127) × (bracket_past 0 Outside 0 l.bytes ≡ bracket_past l.at l.part l.depth (drop l.at l.bytes))
