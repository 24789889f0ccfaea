use Rattle.std.proofs.Common.{◌+◌, length, refl, arith}
use Rattle.subst_language.specs.declared.part.Part.TheVariants.{Default}
use Rattle.subst_expand.proofs.WriterLemmas.{holds_took}
use Rattle.subst_expand.proofs.writer.WriterSink.take_optional.Goals as goal

pub returns-clause-taken : goal.returns-clause-taken
returns-clause-taken g c first parts held =
    let given = c.requires in
    rw (c.write.ensures.source, c.write.ensures.variables, ← held.count)
    (holds_took _ _ (Default c.args.name (c.args.self.now.len + 1)) _ _ c.write.result _ _ _ _ first parts
    (length given.parts) (omega arith, omega (arith, given.held.count)) given.held.count held
    c.write.ensures.written refl)
