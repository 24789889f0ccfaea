use Rattle.std.proofs.Common.{◌≡◌, ◌≤◌, length}
use Rattle.subst_yaml_reader.specs.Runs.{after_spaces}
use Rattle.subst_yaml_reader.proofs.runs.after_spaces.Given as goal

abbrev pub invariant-loop-rest : goal.invariant-loop-rest
invariant-loop-rest l = record {
  same : after_spaces l.text ≡ after_spaces l.rest;
  shorter : length l.rest ≤ length l.text;
}

abbrev pub decreases-loop-rest : goal.decreases-loop-rest
decreases-loop-rest l = length l.rest
