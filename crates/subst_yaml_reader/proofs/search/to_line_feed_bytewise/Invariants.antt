use Rattle.std.proofs.Common.{◌≡◌, ◌≤◌, length}
use Rattle.subst_yaml_reader.specs.Search.{to_line_feed}
use Rattle.subst_yaml_reader.proofs.search.to_line_feed_bytewise.Given as goal

abbrev pub invariant-loop-rest : goal.invariant-loop-rest
invariant-loop-rest l = record {
  same : to_line_feed l.text ≡ to_line_feed l.rest;
  shorter : length l.rest ≤ length l.text;
}

abbrev pub decreases-loop-rest : goal.decreases-loop-rest
decreases-loop-rest l = length l.rest
