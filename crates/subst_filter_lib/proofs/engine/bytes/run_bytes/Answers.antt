-- The bytes that were read are the source. Its output is written, or it is refused.
use Rattle.std.proofs.Common.{refl}
use Rattle.subst.specs.Calls.VariableMap.{look_up_of}
use Rattle.subst_filter_lib.proofs.FilterRunLemmas.{delivered, refused}
use Rattle.subst_filter_lib.proofs.engine.bytes.run_bytes.Goals as goal

pub returns-in-Ok-clause-answer : goal.returns-in-Ok-clause-answer
returns-in-Ok-clause-answer g c bytes reads =
    let source = c.in_ok-source.source.items in
    let look = look_up_of bytes (g.M.VariableMap.look_up c.args.variables.now) in
    delivered (g.I.ByteInput.left c.args.input.now) (g.I.ByteInput.left c.read_all.new.input) source source
    look (g.O.ByteOutput.written c.args.output.now) (g.O.ByteOutput.written c.deliver.new.output)
    c.in_ok-source.ensures.ok refl c.in-Ok.bytes.items c.deref.result.now c.deliver.result
    (g.O.ByteOutput.has_failed c.deliver.new.output) c.deref.ensures.value
    (c.in-Ok.ensures.answer bytes reads)
    c.deliver.ensures.ok c.deliver.ensures.prefix c.deliver.ensures.err

pub returns-in-Err-clause-answer : goal.returns-in-Err-clause-answer
returns-in-Err-clause-answer g c bytes reads =
    let source = c.in_ok-source.source.items in
    let written = g.O.ByteOutput.written c.args.output.now in
    refused (g.I.ByteInput.left c.args.input.now) (g.I.ByteInput.left c.read_all.new.input) source source
    (look_up_of bytes (g.M.VariableMap.look_up c.args.variables.now)) written written
    c.in_ok-source.ensures.ok refl c.in-Err.e c.new.result c.refusal.result (c.in-Err.ensures.answer bytes reads)
    c.refusal.ensures
