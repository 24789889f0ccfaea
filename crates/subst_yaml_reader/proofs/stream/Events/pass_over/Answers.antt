-- One more event is read.
use Rattle.std.proofs.Common.{rules}
use Rattle.subst_yaml_reader.specs.Stream.{to_come}
use Rattle.subst_yaml_reader.proofs.StreamLemmas.{passed}
use Rattle.subst_yaml_reader.proofs.stream.Events.pass_over.Goals as goal

pub loop-preserved : goal.loop-preserved
loop-preserved c = (
  search rules,
  passed c.loop.invariant.1.0 c.in-Some._event (to_come c.args.self.now) (to_come c.loop.self)
      (to_come c.next.new.self) c.loop.invariant.1.1 (rw c.in-Some.is at c.in_ok-_event.ensures.event),
)
