-- One more range has a place.
use Rattle.std.proofs.Common.{rules}
use Rattle.std.proofs.lemmas.List.{get_or_default}
use Rattle.std.proofs.lemmas.List.Elements.{all_zip_more, All-push}
use Rattle.subst_error.specs.Range.{IsRangeIn}
use Rattle.subst_yaml.specs.Places.{IsShortened}
use Rattle.subst_yaml.proofs.places.all_found.Goals as goal

pub loop-range-preserved : goal.loop-range-preserved
loop-range-preserved c =
    let l = c.loop-range in
    let found = c.in-Some.found in record {
      one_each = search rules;
      within = rw c.in_ok-push.ensures.items
          (All-push (IsRangeIn c.args.source.now) l.places.items found.place l.invariant.within
          c.in-Some.ensures.0);
      shortened = rw c.in_ok-push-2.ensures.items
          (all_zip_more (IsShortened c.args.string.now) c.args.ranges.now l.short.items l.range-index _ found.short
          c.loop-range-test.true (get_or_default c.args.ranges.now l.range-index _ _ c.loop-range-test.true)
          l.invariant.shortened c.in-Some.ensures.1);
    }
