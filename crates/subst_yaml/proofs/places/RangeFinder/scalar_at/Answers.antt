-- The event that is found is one of the finder's events.
use Rattle.std.proofs.lemmas.List.Elements.{All-contains}
use Rattle.subst_yaml.specs.Places.{IsEventOf}
use Rattle.subst_yaml.proofs.places.RangeFinder.scalar_at.Goals as goal

pub returns-clause-value : goal.returns-clause-value
returns-clause-value c s finder =
    let (in_flow, there) = rw c.deref.ensures.value at c.in_ok-index.ensures in
    (in_flow, All-contains (IsEventOf s) c.args.self.now.events.items _ finder there)
