-- Each event that is read is an event of the text.
use Rattle.subst_yaml.proofs.PlaceLemmas.{events_of}
use Rattle.subst_yaml.proofs.places.RangeFinder.new.Goals as goal

pub returns-in-Ok : goal.returns-in-Ok
returns-in-Ok c = record { finder = events_of c.args.source.now _ c.in-Ok.ensures.ok }
