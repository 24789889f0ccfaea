-- A source without dollars and backslashes is a sentence and its own output.
use Rattle.std.proofs.Common.{None, length, refl, ap}
use Rattle.std.proofs.lemmas.Result.{err_from_is_err_and}
use Rattle.subst_language.specs.Calls.VariableMap.{look_up_of}
use Rattle.subst_language.proofs.CallingLemmas.{plain_answer}
use Rattle.subst_template.proofs.PlainLemmas.{all_plain, no_range}
use Rattle.subst_template.proofs.substitute.Goals as goal

pub returns-then-plain-source-clause-answer : goal.returns-then-plain-source-clause-answer
returns-then-plain-source-clause-answer g c = λ bytes reads.
    let plain = all_plain c.as_bytes.ensures.value c.plain_len-plain.ensures.whole c.if-plain-source.true
    refl (ap length c.as_bytes.ensures.value) in
    rw c.in_ok-from_str.ensures.ok (plain_answer c.args.source.now
    (look_up_of bytes (g.M.VariableMap.look_up c.args.variables.now)) plain)

pub returns-then-plain-source-clause-sentence : goal.returns-then-plain-source-clause-sentence
returns-then-plain-source-clause-sentence g c =
    let plain = all_plain c.as_bytes.ensures.value c.plain_len-plain.ensures.whole c.if-plain-source.true
    refl (ap length c.as_bytes.ensures.value) in
    let (t, spells, gives) = plain_answer c.args.source.now (λ name. None) plain in
    (t, spells)

pub returns-in_err-from_str-clause-range : goal.returns-in_err-from_str-clause-range
returns-in_err-from_str-clause-range g c =
    let gone = c.from_residual in
    let (e, is, gives) = err_from_is_err_and gone.result gone.ensures.1 in
    rw (is, gives) (no_range c.args.source.now c.utf8.source)

pub returns-then-plain-source-clause-complete : goal.returns-then-plain-source-clause-complete
returns-then-plain-source-clause-complete g c look names =
    let plain = all_plain c.as_bytes.ensures.value c.plain_len-plain.ensures.whole c.if-plain-source.true
    refl (ap length c.as_bytes.ensures.value) in
    (_, plain_answer c.args.source.now look plain)
