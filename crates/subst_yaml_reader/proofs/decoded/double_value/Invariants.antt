use Rattle.std.proofs.Common.{◌≡◌, [], length, option_map}
use Rattle.subst_yaml_reader.specs.Decoded.{double}
use Rattle.subst_yaml_reader.specs.Values.{folded}
use Rattle.subst_yaml_reader.specs.declared.runs.Escape.TheVariants.{Nothing}
use Rattle.subst_yaml_reader.proofs.DecodedLemmas.{prefixed}
use Rattle.subst_yaml_reader.proofs.decoded.double_value.Given as goal

abbrev pub invariant-loop-rest : goal.invariant-loop-rest
invariant-loop-rest l = option_map (folded []) (double Nothing l.text)
    ≡ prefixed l.read.value.items (option_map (folded l.read.white.items) (double l.held l.rest))

abbrev pub decreases-loop-rest : goal.decreases-loop-rest
decreases-loop-rest l = length l.rest
