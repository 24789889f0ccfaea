-- One more event is compared, and then both texts are at their ends.
use Rattle.subst_yaml_reader.specs.Stream.{to_come}
use Rattle.subst_yaml.proofs.FilledLemmas.{compare_end, compare_more, given_end, given_event}
use Rattle.subst_yaml.proofs.compared.are_filled.Goals as goal

pub loop-preserved : goal.loop-preserved
loop-preserved g c =
    compare_more (g.F.Fill.answers c.args.filler.now) c.args.texts.source.now c.args.texts.output.now
    (to_come c.args.events) (to_come c.args.filled) (to_come c.loop.events) (to_come c.loop.filled)
    (to_come c.next.new.self) (to_come c.next-in-loop.new.self) c.loop.at c.in-Some-3.next
    c.in-Some-Some.event c.in-Some-Some.other c.loop.invariant
    (given_event c.next.result c.in_ok-event.field-0 c.in-Some.event c.in-Some-Some.event _
    c.next.ensures.event c.in_ok-event.ensures c.in-Some.is c.in-Some-Some.is-0)
    (given_event c.next-in-loop.result c.in_ok-other.field-0 c.in-Some-2.other c.in-Some-Some.other _
    c.next-in-loop.ensures.event c.in_ok-other.ensures c.in-Some-2.is c.in-Some-Some.is-1)
    (rw c.in-Some-3.is at c.in_ok-next.ensures)

pub returns-in_default-3 : goal.returns-in_default-3
returns-in_default-3 g c = λ over.
    let (no_event, no_other, same) = c.are_over.ensures over in
    compare_end (g.F.Fill.answers c.args.filler.now) c.args.texts.source.now c.args.texts.output.now
    (to_come c.args.events) (to_come c.args.filled) (to_come c.loop.events) (to_come c.loop.filled)
    c.loop.at c.loop.invariant
    (given_end c.next.result c.in_ok-event.field-0 c.in-Some.event _ c.next.ensures.end
    c.in_ok-event.ensures c.in-Some.is no_event)
    (given_end c.next-in-loop.result c.in_ok-other.field-0 c.in-Some-2.other _ c.next-in-loop.ensures.end
    c.in_ok-other.ensures c.in-Some-2.is no_other)
    same
