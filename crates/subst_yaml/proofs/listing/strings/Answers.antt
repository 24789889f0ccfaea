use Rattle.std.proofs.Common.{◌≡◌, map}
use Rattle.subst_yaml.specs.Listed.{spelled_in, spelled_of}
use Rattle.subst_yaml.proofs.ListedLemmas.{listing_of}
use Rattle.subst_yaml.proofs.listing.strings.Goals as goal

pub returns : goal.returns
returns c =
    let source = c.args.source.now in
    let events = c.in_ok-events.events.items in
    let list = c.in_ok-strings_of.field-0.items in
    let each : map spelled_of list ≡ spelled_in source events =
    rw (c.as_bytes.ensures.value, c.deref.ensures.value) at c.in_ok-strings_of.ensures in record {
      listed = record {
        list = listing_of source events list c.in_ok-events.ensures.ok each;
        yaml = tt;
        inside = tt;
        subst = tt;
        memory = tt;
      };
    }
