-- One lemma for no name, and one for each byte after a name.
use Rattle.std.proofs.Common.{length, refl, ap, arith, length-drop}
use Rattle.subst_parse.proofs.PlaceholderLemmas.{in_braces_at, nameless_braces_at, unended_name_at, unexpected_byte_at}
use Rattle.subst_parse.proofs.item.braced_at.Goals as goal

pub name_end-end-requires : goal.name_end-end-requires
name_end-end-requires c = omega (arith, simp length-drop at (ap length c.requires))

pub returns-then-start-end-clause-err : goal.returns-then-start-end-clause-err
returns-then-start-end-clause-err c =
    let found = c.name_end-end.ensures in
    nameless_braces_at c.args.tape.now.source.now c.args.at c.name_end-end.result c.requires found.run
    found.end c.if-start-end.true

pub returns-in-None-clause-err : goal.returns-in-None-clause-err
returns-in-None-clause-err c =
    unended_name_at c.args.tape.now.source.now c.args.at c.name_end-end.result c.requires
    c.name_end-end.ensures.run
    c.if-start-end.false (rw c.name_end-end.ensures.same at c.in-None.ensures.byte)

pub returns-in-Some-eq125-clause-ok : goal.returns-in-Some-eq125-clause-ok
returns-in-Some-eq125-clause-ok c =
    let found = c.name_end-end.ensures in
    in_braces_at c.args.tape.now.source.now c.args.at c.name_end-end.result c.requires found.run
    c.in-Some-eq125.field-0 125 c.if-start-end.false found.within
    (rw found.same at c.in-Some-eq125.ensures.byte) c.in-Some-eq125.field-0-test

pub returns-in-Some-eq58-clause-ok : goal.returns-in-Some-eq58-clause-ok
returns-in-Some-eq58-clause-ok c =
    let found = c.name_end-end.ensures in
    in_braces_at c.args.tape.now.source.now c.args.at c.name_end-end.result c.requires found.run
    c.in-Some-eq58.field-0 58 c.if-start-end.false found.within
    (rw found.same at c.in-Some-eq58.ensures.byte) c.in-Some-eq58.field-0-test

pub optional_at-requires : goal.optional_at-requires
optional_at-requires c =
    let found = c.name_end-end.ensures in
    rw (c.in-Some-eq63.ensures.same, found.same)
    (in_braces_at c.args.tape.now.source.now c.args.at c.name_end-end.result c.requires found.run
    c.in-Some-eq63.field-0 63 c.if-start-end.false found.within
    (rw found.same at c.in-Some-eq63.ensures.byte) c.in-Some-eq63.field-0-test)

pub returns-in-Some-clause-err : goal.returns-in-Some-clause-err
returns-in-Some-clause-err c =
    let found = c.name_end-end.ensures in
    unexpected_byte_at c.args.tape.now.source.now c.args.at c.name_end-end.result c.requires found.run
    c.in-Some.field-0 c.character_at.result _
    c.if-start-end.false found.end (rw found.same at c.in-Some.ensures.byte) c.in-Some.field-0-test.0.0.1
    c.in-Some.field-0-test.0.1 c.in-Some.field-0-test.1
    (rw (c.in-Some.ensures.same, found.same) at c.character_at.ensures.answer) refl
