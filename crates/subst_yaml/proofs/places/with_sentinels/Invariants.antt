-- The text so far, followed by that of the remaining ranges, is the text with sentinels.
use Rattle.std.proofs.Common.{◌≡◌, ◌++◌, drop}
use Rattle.subst_yaml.specs.Places.{with_sentinels, AreInOrder}
use Rattle.subst_yaml.proofs.places.with_sentinels.Given as goal

abbrev pub invariant-loop-range : goal.invariant-loop-range
invariant-loop-range l = record {
  in_order : AreInOrder l.passed (drop l.range-index l.ranges) l.to → AreInOrder l.from l.ranges l.to;
  marked : l.marked.items ++ with_sentinels l.text l.passed (drop l.range-index l.ranges) l.to
      ≡ with_sentinels l.text l.from l.ranges l.to;
}
