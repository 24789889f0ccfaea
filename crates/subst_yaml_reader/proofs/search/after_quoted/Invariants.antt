use Rattle.std.proofs.Common.{◌≡◌, ◌≤◌, length, false}
use Rattle.subst_yaml_reader.specs.Runs.{after_double, after_single}
use Rattle.subst_yaml_reader.specs.declared.runs.Escape.TheVariants.{Nothing}
use Rattle.subst_yaml_reader.proofs.search.after_quoted.Given as goal

abbrev pub invariant-loop-rest : goal.invariant-loop-rest
invariant-loop-rest l = record {
  double : after_double Nothing l.text ≡ after_double Nothing l.rest;
  single : after_single false l.text ≡ after_single false l.rest;
  shorter : length l.rest ≤ length l.text;
}

abbrev pub decreases-loop-rest : goal.decreases-loop-rest
decreases-loop-rest l = length l.rest
