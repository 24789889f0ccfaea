-- Each event is filled in after those before it.
use Rattle.std.proofs.Common.{ℕ, Bool, Global, Option, Vec, rules}
use Rattle.std.proofs.lemmas.Option.{IfSome_then}
use Rattle.subst_yaml_reader.specs.Stream.{text_of, to_come}
use Rattle.subst_yaml.proofs.PassLemmas.{OnSubst-weaker, begin, pass_more, some_changed, string_refused}
use Rattle.subst_yaml.proofs.filled.filled_in.Goals as goal

pub loop-init : goal.loop-init
loop-init g c =
    let events = c.in_ok-events.events in
    begin (g.F.Fill.answers c.args.filler.now) c.args.source.now (text_of events) (to_come events)
    (search rules) (search rules)

pub returns-in_default-clause-change : goal.returns-in_default-clause-change
returns-in_default-clause-change g c =
    IfSome_then c.in_ok-whole.field-0 c.in_ok-whole.ensures.change
    (λ x is. some_changed (g.F.Fill.answers c.args.filler.now) c.args.source.now (text_of c.loop.events)
    (to_come c.loop.events) c.loop.is_changed c.loop.invariant (search rules) is)

pub returns-in-Err-clause-subst : goal.returns-in-Err-clause-subst
returns-in-Err-clause-subst g c =
    let ask = g.F.Fill.answers c.args.filler.now in
    OnSubst-weaker Bool (Option (Vec ℕ Global)) _ _
    (string_refused ask c.args.source.now (text_of c.loop.events) (to_come c.loop.events)
    (to_come c.next.new.self) c.in-Some.event c.loop.is_changed c.loop.invariant
    (rw c.in-Some.is at c.in_ok-event.ensures.event) (search rules)) c.in-Err.error
    (rw c.as_bytes-text.ensures.value at c.in-Err.ensures.subst)

pub loop-preserved : goal.loop-preserved
loop-preserved g c =
    pass_more (g.F.Fill.answers c.args.filler.now) c.args.source.now (text_of c.loop.events)
    (text_of c.next.new.self) (to_come c.loop.events) (to_come c.next.new.self) c.in-Some.event
    c.loop.is_changed c.in-Ok.changes c.loop.invariant (rw c.in-Some.is at c.in_ok-event.ensures.event)
    c.in_ok-event.ensures.text
    (rw c.as_bytes-text.ensures.value at c.in-Ok.ensures.ok)
