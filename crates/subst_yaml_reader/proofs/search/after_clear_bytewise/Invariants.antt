use Rattle.std.proofs.Common.{◌≡◌, ◌≤◌, length}
use Rattle.subst_yaml_reader.specs.Runs.{is_text}
use Rattle.subst_yaml_reader.proofs.search.after_clear_bytewise.Given as goal

abbrev pub invariant-loop-rest : goal.invariant-loop-rest
invariant-loop-rest l = record {
  same : is_text l.text ≡ is_text l.rest;
  shorter : length l.rest ≤ length l.text;
}

abbrev pub decreases-loop-rest : goal.decreases-loop-rest
decreases-loop-rest l = length l.rest
