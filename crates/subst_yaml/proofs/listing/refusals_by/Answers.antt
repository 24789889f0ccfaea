use Rattle.subst_yaml.specs.Listed.{found_in, AreRefusalsOf}
use Rattle.subst_yaml.specs.Paths.{start}
use Rattle.subst_yaml.proofs.ListedLemmas.{all_refused}
use Rattle.subst_yaml.proofs.listing.refusals_by.Goals as goal

pub returns : goal.returns
returns g c =
    let ask = g.F.Fill.answers c.args.filler.now in
    let source = c.args.source.now in
    let events = c.in_ok-events.events.items in
    let all = c.in_ok-refusals_of.field-0.items in
    let are : AreRefusalsOf ask (found_in source start events) all =
    rw (c.as_bytes.ensures.value, c.deref.ensures.value) at c.in_ok-refusals_of.ensures in record {
      listed = record {
        list = all_refused ask source events all c.in_ok-events.ensures.ok are;
        yaml = tt;
        inside = tt;
        subst = tt;
        memory = tt;
      };
    }
