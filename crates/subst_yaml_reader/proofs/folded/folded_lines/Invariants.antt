use Rattle.std.proofs.Common.{◌≡◌, [], ◌∷◌, ◌++◌, length, None}
use Rattle.subst_yaml_reader.specs.Values.{folded_lines}
use Rattle.subst_yaml_reader.proofs.folded.folded_lines.Given as goal

abbrev pub invariant-loop-rest : goal.invariant-loop-rest
invariant-loop-rest l = folded_lines None (10 ∷ []) l.lines
    ≡ l.value.items ++ folded_lines l.before l.ends.items l.rest

abbrev pub decreases-loop-rest : goal.decreases-loop-rest
decreases-loop-rest l = length l.rest
