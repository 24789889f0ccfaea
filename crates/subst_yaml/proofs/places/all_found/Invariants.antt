-- Each range so far has a place.
use Rattle.std.proofs.Common.{◌≡◌, length, take}
use Rattle.std.specs.List.{All, AllZip}
use Rattle.subst_error.specs.Range.{IsRangeIn}
use Rattle.subst_yaml.specs.Places.{IsShortened}
use Rattle.subst_yaml.proofs.places.all_found.Given as goal

abbrev pub invariant-loop-range : goal.invariant-loop-range
invariant-loop-range l = record {
  one_each : length l.places.items ≡ length l.short.items;
  within : All (IsRangeIn l.source) l.places.items;
  shortened : AllZip (IsShortened l.string) (take l.range-index l.ranges) l.short.items;
}
