use Rattle.std.proofs.Common.{◌≡◌, length, false}
use Rattle.subst_yaml_reader.specs.Runs.{after_block}
use Rattle.subst_yaml_reader.proofs.runs.after_block.Given as goal

abbrev pub invariant-loop-rest : goal.invariant-loop-rest
invariant-loop-rest l = after_block l.indent l.keep false 0 l.fn.end l.text
    ≡ after_block l.indent l.keep false l.column l.end l.rest

abbrev pub decreases-loop-rest : goal.decreases-loop-rest
decreases-loop-rest l = length l.rest
