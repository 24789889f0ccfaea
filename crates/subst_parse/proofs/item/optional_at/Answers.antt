-- One lemma for the end after the question mark, and one for another byte.
use Rattle.std.proofs.Common.{refl, arith}
use Rattle.subst_parse.proofs.PlaceholderLemmas.{unended_optional_at, unclosed_optional_at}
use Rattle.subst_parse.proofs.item.optional_at.Goals as goal

pub returns-in-None-clause-err : goal.returns-in-None-clause-err
returns-in-None-clause-err c =
    unended_optional_at c.args.tape.now.source.now c.args.at c.args.name c.requires _ c.in-None.ensures.byte
    (omega arith)

pub returns-in-Some-clause-err : goal.returns-in-Some-clause-err
returns-in-Some-clause-err c =
    unclosed_optional_at c.args.tape.now.source.now c.args.at c.args.name c.requires _ c.in-Some.field-0
    c.character_at.result _
    c.in-Some.ensures.byte c.in-Some.field-0-test.1
    (rw c.in-Some.ensures.same at c.character_at.ensures.answer) (omega arith) refl
