-- The jump of an open default is 0.
use Rattle.std.proofs.Common.{refl, ◌∙◌, arith}
use Rattle.subst_indexed.proofs.SinkLemmas.{adds_default, has_length, keeps_parts, on_any_err}
use Rattle.subst_indexed.proofs.cell_sink.CellSinkSink.open.Goals as goal

pub returns-in_err-push_default-clause-kept : goal.returns-in_err-push_default-clause-kept
returns-in_err-push_default-clause-kept c =
    on_any_err c.from_residual.result
    (keeps_parts c.args.self.now c.push_default.new.self c.in_err-push_default.ensures.err)

pub returns-clause-taken : goal.returns-clause-taken
returns-clause-taken c =
    adds_default c.args.self.now c.push_default.new.self c.args.name (λ index. 0) 0
    (λ first parts held. omega arith) c.in_ok-push_default.ensures.ok

pub returns-clause-index : goal.returns-clause-index
returns-clause-index c =
    has_length c.args.self.now _ c.len-index.result refl (c.len-index.ensures ∙ c.args.self.now.cells.ok.0)
