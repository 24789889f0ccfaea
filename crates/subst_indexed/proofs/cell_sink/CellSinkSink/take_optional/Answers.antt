-- The default has no parts to jump over.
use Rattle.std.proofs.Common.{◌+◌, arith}
use Rattle.std.proofs.lemmas.Result.{on_ok_weaker, on_err_weaker}
use Rattle.subst_indexed.proofs.SinkLemmas.{adds_default, keeps_parts}
use Rattle.subst_indexed.proofs.cell_sink.CellSinkSink.take_optional.Goals as goal

pub returns-clause-taken : goal.returns-clause-taken
returns-clause-taken c =
    on_ok_weaker c.push_default.result
    (adds_default c.args.self.now c.push_default.new.self c.args.name (λ index. index + 1) 0
    (λ first parts held. omega arith)) c.push_default.ensures.ok

pub returns-clause-kept : goal.returns-clause-kept
returns-clause-kept c =
    on_err_weaker c.push_default.result (keeps_parts c.args.self.now c.push_default.new.self)
    c.push_default.ensures.err
