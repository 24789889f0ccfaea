use Rattle.std.proofs.Common.{◌≡◌, [], length, false, option_map}
use Rattle.subst_yaml_reader.specs.Decoded.{single}
use Rattle.subst_yaml_reader.specs.Values.{folded}
use Rattle.subst_yaml_reader.proofs.DecodedLemmas.{prefixed}
use Rattle.subst_yaml_reader.proofs.decoded.single_value.Given as goal

abbrev pub invariant-loop-rest : goal.invariant-loop-rest
invariant-loop-rest l = option_map (folded []) (single false l.text)
    ≡ prefixed l.read.value.items (option_map (folded l.read.white.items) (single l.is_quoted l.rest))

abbrev pub decreases-loop-rest : goal.decreases-loop-rest
decreases-loop-rest l = length l.rest
