-- A place that was found is within the text.
use Rattle.std.proofs.lemmas.Option.{IfSome_then}
use Rattle.subst_yaml.proofs.PlaceLemmas.{place_within}
use Rattle.subst_yaml.proofs.reports.refusal.Goals as goal

pub fault-requires : goal.fault-requires
fault-requires c =
    IfSome_then c.in_ok-place.place (c.in_ok-place.ensures.place c.requires.finder)
    (λ place is. place_within c.args.source.now _ _ place is)
