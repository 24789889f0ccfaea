use Rattle.std.proofs.Common.{refl}
use Rattle.subst_expand.proofs.WriterLemmas.{holds_opened, holds_jumped}
use Rattle.subst_expand.proofs.writer.WriterSink.open.Goals as goal
use Rattle.subst_expand.proofs.writer.WriterSink.open.Goals.{then-write, else-write}

pub returns-clause-taken : goal.returns-clause-taken
returns-clause-taken g c first parts held = elim c.if-write.branch [
  | then-write w ↦
      rw (w.self-is, c.write.ensures.source, c.write.ensures.variables, c.write.ensures.len)
      (holds_jumped _ _ c.args.name _ _ c.write.result _ _ _ _ first parts held c.write.ensures.written
      w.if-write.true refl)
  | else-write w ↦
      rw (w.self-is, c.write.ensures.source, c.write.ensures.variables, c.write.ensures.len)
      (holds_opened _ _ c.args.name _ _ c.write.result _ _ _ _ first parts held c.write.ensures.written
      w.if-write.false refl)
]

pub returns-clause-index : goal.returns-clause-index
returns-clause-index g c first parts held = held.count
