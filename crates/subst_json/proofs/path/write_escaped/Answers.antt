-- The next character is written, escaped.
use Rattle.std.proofs.Common.{◌++◌, [], append_assoc, arith, flat_map}
use Rattle.std.proofs.lemmas.Grind.{common_steps}
use Rattle.std.specs.Char.{encode_utf8}
use Rattle.subst_json.specs.Pointer.{escaped_byte}
use Rattle.subst_json.proofs.path.write_escaped.Goals as goal

pub loop-c-init : goal.loop-c-init
loop-c-init g c = λ plain. ([], grind (arith, common_steps), grind (arith, common_steps))

pub loop-c-preserved : goal.loop-c-preserved
loop-c-preserved g c = λ plain.
    let (done, wrote, whole) = c.loop-c.invariant plain in
    let shown = flat_map escaped_byte (encode_utf8 c.in-Some.c) in
    (done ++ shown, grind (arith, common_steps), grind (arith, common_steps, append_assoc))
