-- The refusals of one more event are appended.
use Rattle.std.proofs.Common.{List, [], ◌++◌, sym, ap, ◌∙◌, subst, append_assoc, append-nil, refl}
use Rattle.std.proofs.lemmas.List.{drop_all}
use Rattle.subst_yaml_reader.specs.declared.event.Event.{Event}
use Rattle.subst_yaml.specs.Listed.{found_in, AreRefusalsOf, RefusalAt}
use Rattle.subst_yaml.specs.Paths.{start, trail_of}
use Rattle.subst_yaml.proofs.ListedLemmas.{refused_next}
use Rattle.subst_yaml.proofs.listing.refusals_of.Goals as goal

pub loop-event-preserved : goal.loop-event-preserved
loop-event-preserved g c = λ more h.
    let ask = g.F.Fill.answers c.args.filler.now in
    let text = c.args.text.now in
    let events = c.args.events.now in
    let l = c.loop-event in
    let step = c.in_ok-add_refusal.ensures in
    subst (λ (all : List RefusalAt). AreRefusalsOf ask (found_in text start events) all)
    (sym (append_assoc l.all.items step.0 more)
    ∙ ap (λ (all : List RefusalAt). all ++ more) (sym {A = List RefusalAt} step.1))
    (l.invariant (step.0 ++ more)
    (refused_next ask text events l.event-index (trail_of l.trail) (trail_of c.pass.new.self) step.0 more
    c.loop-event-test.true c.in_ok-pass.ensures step.2 h))

pub returns : goal.returns
returns g c =
    let ask = g.F.Fill.answers c.args.filler.now in
    let text = c.args.text.now in
    let events = c.args.events.now in
    let l = c.loop-event in
    subst (λ (all : List RefusalAt). AreRefusalsOf ask (found_in text start events) all) (append-nil l.all.items)
    (l.invariant [] (subst (λ (es : List Event). AreRefusalsOf ask (found_in text (trail_of l.trail) es) [])
    (sym (drop_all l.event-index events c.loop-event-test.false)) refl))
