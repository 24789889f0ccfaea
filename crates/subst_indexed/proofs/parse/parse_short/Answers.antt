-- By the parts that the sink holds.
use Rattle.subst_indexed.proofs.ParseLemmas.{completed}
use Rattle.subst_indexed.proofs.parse.parse_short.Goals as goal

pub returns-in_ok-finish-in-Ok-clause-ok : goal.returns-in_ok-finish-in-Ok-clause-ok
returns-in_ok-finish-in-Ok-clause-ok c =
    let done = (rw c.in-Ok.is at c.parse_into-sink.ensures.ok) c.args.source.now c.in_ok-sink.ensures.0 in (
      _,
      completed _ c.args.source.now _ _ done.parts done.held done.template
          c.in_ok-finish-in-Ok.field-0.items c.in_ok-finish-in-Ok.ensures,
    )
