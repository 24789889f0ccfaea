use Rattle.std.proofs.Common.{length, refl}
use Rattle.subst_expand.proofs.WriterLemmas.{holds_took}
use Rattle.subst_expand.proofs.writer.WriterSink.take.Goals as goal

pub returns-clause-taken : goal.returns-clause-taken
returns-clause-taken g c first parts held =
    let given = c.requires.fits in
    rw (c.write.ensures.source, c.write.ensures.variables)
    (holds_took _ _ c.args.part _ _ c.write.result _ _ _ _ first parts (length given.parts)
    (c.requires.closed (length given.parts))
    given.held.count held c.write.ensures.written (rw c.write.ensures.len refl))
