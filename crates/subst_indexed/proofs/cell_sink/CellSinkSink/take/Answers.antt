-- The cell keeps the part.
use Rattle.std.proofs.Common.{[], refl, arith}
use Rattle.std.proofs.lemmas.Result.{on_ok_weaker, on_err_weaker}
use Rattle.subst_indexed.proofs.SinkLemmas.{adds_default, adds_part, cells_length, keeps_parts, no_names}
use Rattle.subst_language.specs.declared.part.Part.TheVariants as parts
use Rattle.subst_indexed.proofs.cell_sink.CellSinkSink.take.Goals as goal

pub returns-in-Literal-clause-taken : goal.returns-in-Literal-clause-taken
returns-in-Literal-clause-taken c = rw c.in-Literal.is (
    on_ok_weaker c.push.result
    (adds_part c.args.self.now c.args.self.now c.push.new.self (λ _. parts.Literal c.in-Literal.span) _ []
    (no_names c.args.self.now) (λ index. refl) (λ first parts held. (refl, refl))) c.push.ensures.ok)

pub returns-in-Escaped-clause-taken : goal.returns-in-Escaped-clause-taken
returns-in-Escaped-clause-taken c = rw c.in-Escaped.is (
    on_ok_weaker c.push-in-Escaped.result
    (adds_part c.args.self.now c.args.self.now c.push-in-Escaped.new.self
    (λ _. parts.Escaped c.in-Escaped.byte) _ [] (no_names c.args.self.now) (λ index. refl)
    (λ first parts held. refl)) c.push-in-Escaped.ensures.ok)

pub returns-in-Default-clause-taken : goal.returns-in-Default-clause-taken
returns-in-Default-clause-taken c = rw c.in-Default.is (
    on_ok_weaker c.push_default.result
    (adds_default c.args.self.now c.push_default.new.self c.in-Default.name (λ _. c.in-Default.next) _
    (λ first parts held.
    let more = cells_length c.args.self.now.source.now c.args.self.now.cells.items
    c.args.self.now.names.list.items first parts held in
    omega (arith, more, c.saturating_sub-jump.ensures, c.len.ensures, c.args.self.now.cells.ok.0)))
    c.push_default.ensures.ok)

pub returns-in-Default-clause-kept : goal.returns-in-Default-clause-kept
returns-in-Default-clause-kept c =
    on_err_weaker c.push_default.result (keeps_parts c.args.self.now c.push_default.new.self)
    c.push_default.ensures.err
