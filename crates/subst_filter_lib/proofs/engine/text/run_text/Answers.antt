-- The bytes that were read are the source. It is written if it is plain, and refused with the error of its
-- substitution.
use Rattle.std.proofs.Common.{List, ℕ, string_bytes, subst, ◌∙◌}
use Rattle.std.specs.List.{All}
use Rattle.std.specs.Str.{IsUtf8}
use Rattle.subst.specs.Calls.VariableMap.{look_up_of}
use Rattle.subst.specs.Language.Bytes.{IsPlain}
use Rattle.subst.proofs.Calling.{plain_answer}
use Rattle.subst_filter_lib.proofs.FilterRunLemmas.{delivered, refused_source, refused_text}
use Rattle.subst_filter_lib.proofs.engine.text.run_text.Goals as goal

pub returns-then-is_plain-clause-answer : goal.returns-then-is_plain-clause-answer
returns-then-is_plain-clause-answer g c bytes reads =
    let text = c.in-Ok.source.now in
    let look = look_up_of bytes (g.M.VariableMap.look_up c.args.variables.now) in
    let plain = subst (λ (s : List ℕ). All IsPlain s) c.as_bytes.ensures.value
    (c.is_plain.ensures.plain.0 c.if-is_plain.true) in
    delivered (g.I.ByteInput.left c.args.input.now) (g.I.ByteInput.left c.read_all.new.input)
    c.in_ok-bytes.bytes.items text look (g.O.ByteOutput.written c.args.output.now)
    (g.O.ByteOutput.written c.deliver.new.output) c.in_ok-bytes.ensures.ok
    (c.in-Ok.ensures.0 ∙ c.deref.ensures.value) text c.as_bytes-then-is_plain.result.now
    c.deliver.result (g.O.ByteOutput.has_failed c.deliver.new.output)
    c.as_bytes-then-is_plain.ensures.value (plain_answer text look plain) c.deliver.ensures.ok
    c.deliver.ensures.prefix c.deliver.ensures.err

pub returns-in-Ok-substitute-clause-answer : goal.returns-in-Ok-substitute-clause-answer
returns-in-Ok-substitute-clause-answer g c bytes reads =
    let text = c.in-Ok.source.now in
    let look = look_up_of bytes (g.M.VariableMap.look_up c.args.variables.now) in
    delivered (g.I.ByteInput.left c.args.input.now) (g.I.ByteInput.left c.read_all.new.input)
    c.in_ok-bytes.bytes.items text look (g.O.ByteOutput.written c.args.output.now)
    (g.O.ByteOutput.written c.deliver-in-Ok-substitute.new.output) c.in_ok-bytes.ensures.ok
    (c.in-Ok.ensures.0 ∙ c.deref.ensures.value) (string_bytes c.in-Ok-substitute.text)
    c.as_bytes-in-Ok-substitute.result.now c.deliver-in-Ok-substitute.result
    (g.O.ByteOutput.has_failed c.deliver-in-Ok-substitute.new.output)
    c.as_bytes-in-Ok-substitute.ensures.value
    (c.in-Ok-substitute.ensures.answer bytes reads) c.deliver-in-Ok-substitute.ensures.ok
    c.deliver-in-Ok-substitute.ensures.prefix
    c.deliver-in-Ok-substitute.ensures.err

pub returns-clause-answer : goal.returns-clause-answer
returns-clause-answer g c bytes reads =
    let written = g.O.ByteOutput.written c.args.output.now in
    refused_source (g.I.ByteInput.left c.args.input.now) (g.I.ByteInput.left c.read_all.new.input)
    c.in_ok-bytes.bytes.items c.in-Ok.source.now
    (look_up_of bytes (g.M.VariableMap.look_up c.args.variables.now)) written written
    c.in_ok-bytes.ensures.ok (c.in-Ok.ensures.0 ∙ c.deref.ensures.value) c.in-Err.e
    c.highlighted_refusal.result (c.in-Err.ensures.answer bytes reads) c.highlighted_refusal.ensures.refusal

pub returns-clause-text : goal.returns-clause-text
returns-clause-text g c =
    refused_text (g.I.ByteInput.left c.args.input.now) (g.I.ByteInput.left c.read_all.new.input)
    c.in_ok-bytes.bytes.items c.in_ok-bytes.ensures.ok (subst IsUtf8 c.deref.ensures.value c.in-Ok.ensures.1)
    c.in-Err.e
    c.highlighted_refusal.result c.highlighted_refusal.ensures.refusal
