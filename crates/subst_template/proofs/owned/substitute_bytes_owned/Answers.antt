-- A source without dollars and backslashes is a sentence and its own output.
use Rattle.std.proofs.Common.{None}
use Rattle.subst_language.specs.Calls.VariableMap.{look_up_of}
use Rattle.subst_language.proofs.CallingLemmas.{plain_answer}
use Rattle.subst_template.proofs.PlainLemmas.{all_plain}
use Rattle.subst_template.proofs.owned.substitute_bytes_owned.Goals as goal

pub returns-then-plain-len-clause-answer : goal.returns-then-plain-len-clause-answer
returns-then-plain-len-clause-answer g c = λ bytes reads.
    let plain = all_plain c.deref.ensures.value c.plain_len-plain.ensures.whole c.if-plain-len.true
    c.len.ensures c.deref.ensures.len in
    plain_answer c.args.source.items (look_up_of bytes (g.M.VariableMap.look_up c.args.variables.now)) plain

pub returns-then-plain-len-clause-sentence : goal.returns-then-plain-len-clause-sentence
returns-then-plain-len-clause-sentence g c =
    let plain = all_plain c.deref.ensures.value c.plain_len-plain.ensures.whole c.if-plain-len.true
    c.len.ensures c.deref.ensures.len in
    let (t, spells, gives) = plain_answer c.args.source.items (λ name. None) plain in
    (t, spells)

pub returns-clause-answer : goal.returns-clause-answer
returns-clause-answer g c = λ bytes reads.
    rw (← c.deref-2.ensures.value) (c.substitute.ensures.answer bytes reads)

pub returns-then-plain-len-clause-complete : goal.returns-then-plain-len-clause-complete
returns-then-plain-len-clause-complete g c look names =
    let plain = all_plain c.deref.ensures.value c.plain_len-plain.ensures.whole c.if-plain-len.true
    c.len.ensures c.deref.ensures.len in
    (_, plain_answer c.args.source.items look plain)

pub returns-clause-complete : goal.returns-clause-complete
returns-clause-complete g c = rw (← c.deref-2.ensures.value) c.substitute.ensures.complete
