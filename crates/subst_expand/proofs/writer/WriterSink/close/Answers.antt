use Rattle.std.proofs.Common.{sym, ap, ◌∙◌}
use Rattle.std.proofs.lemmas.Bool.{false≢true}
use Rattle.subst_expand.specs.declared.writer.State.TheVariants.{Jumping}
use Rattle.subst_expand.proofs.WriterLemmas.{holds_resumed, holds_closed}
use Rattle.subst_expand.proofs.writer.WriterSink.close.Goals as goal

pub returns-then-is_inside : goal.returns-then-is_inside
returns-then-is_inside g c first before own is closed held =
    holds_resumed _ _ c.args.index _ _ first before own c.args._name is closed
    (rw (c.is_inside.ensures.0 c.if-is_inside.true) at held)

pub returns-else-is_inside : goal.returns-else-is_inside
returns-else-is_inside g c first before own is closed held =
    holds_closed _ _ _ _ _ first before own c.args._name
    (λ was. false≢true (sym c.if-is_inside.false ∙ c.is_inside.ensures.1 (was ∙ ap Jumping (sym is)))) closed
    held
