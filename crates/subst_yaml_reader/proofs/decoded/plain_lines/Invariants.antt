use Rattle.std.proofs.Common.{◌≡◌, [], ◌++◌, length, map}
use Rattle.subst_yaml_reader.specs.Decoded.{piece_of}
use Rattle.subst_yaml_reader.specs.Values.{folded}
use Rattle.subst_yaml_reader.proofs.decoded.plain_lines.Given as goal

abbrev pub invariant-loop-rest : goal.invariant-loop-rest
invariant-loop-rest l = folded [] (map piece_of l.token)
    ≡ l.read.value.items ++ folded l.read.white.items (map piece_of l.rest)

abbrev pub decreases-loop-rest : goal.decreases-loop-rest
decreases-loop-rest l = length l.rest
