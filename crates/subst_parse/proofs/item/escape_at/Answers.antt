-- One lemma for each case after the backslash.
use Rattle.std.proofs.Common.{sym, ◌∙◌}
use Rattle.subst_parse.proofs.PlaceholderLemmas.{escape_at, lone_backslash_at, other_escape_at}
use Rattle.subst_parse.proofs.item.escape_at.Goals as goal

pub returns-in-None-clause-err : goal.returns-in-None-clause-err
returns-in-None-clause-err c =
    lone_backslash_at c.args.tape.now.source.now c.args.at c.requires.0 c.requires.1 c.in-None.ensures.byte

pub returns-in-Some-clause-ok : goal.returns-in-Some-clause-ok
returns-in-Some-clause-ok c =
    escape_at c.args.tape.now.source.now c.args.at c.requires.0 c.requires.1 c.in-Some.byte
    c.in-Some.ensures.byte
    (sym c.is_escapable.ensures ∙ c.if-is_escapable.true)

pub returns-in-Some-2-clause-err : goal.returns-in-Some-2-clause-err
returns-in-Some-2-clause-err c =
    other_escape_at c.args.tape.now.source.now c.args.at c.requires.0 c.requires.1 c.in-Some.byte
    c.character_at.result c.in-Some.ensures.byte
    (sym c.is_escapable.ensures ∙ c.if-is_escapable.false)
    (rw c.in-Some.ensures.same at c.character_at.ensures.answer)
