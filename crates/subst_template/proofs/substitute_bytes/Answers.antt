-- A source without dollars and backslashes is a sentence and its own output.
use Rattle.std.proofs.Common.{None}
use Rattle.subst_language.specs.Calls.VariableMap.{look_up_of}
use Rattle.subst_language.proofs.CallingLemmas.{plain_answer}
use Rattle.subst_template.proofs.substitute_bytes.Goals as goal

pub returns-then-plain-source-clause-answer : goal.returns-then-plain-source-clause-answer
returns-then-plain-source-clause-answer g c = λ bytes reads.
    rw c.in_ok-from_slice.ensures.items (plain_answer c.args.source.now
    (look_up_of bytes (g.M.VariableMap.look_up c.args.variables.now))
    (c.plain_len-plain.ensures.whole.0 c.if-plain-source.true))

pub returns-then-plain-source-clause-sentence : goal.returns-then-plain-source-clause-sentence
returns-then-plain-source-clause-sentence g c =
    let (t, spells, gives) = plain_answer c.args.source.now (λ name. None)
    (c.plain_len-plain.ensures.whole.0 c.if-plain-source.true) in
    (t, spells)

pub returns-then-plain-source-clause-complete : goal.returns-then-plain-source-clause-complete
returns-then-plain-source-clause-complete g c look names =
    let plain = c.plain_len-plain.ensures.whole.0 c.if-plain-source.true in
    (_, plain_answer c.args.source.now look plain)
