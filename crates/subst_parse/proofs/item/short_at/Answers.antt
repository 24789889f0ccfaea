-- One lemma for a name, and one for none.
use Rattle.subst_parse.proofs.PlaceholderLemmas.{short_at, nameless_dollar_at}
use Rattle.subst_parse.proofs.item.short_at.Goals as goal

pub returns-then-start-end-clause-err : goal.returns-then-start-end-clause-err
returns-then-start-end-clause-err c =
    let found = c.name_end-end.ensures in
    nameless_dollar_at c.args.tape.now.source.now c.args.at c.name_end-end.result c.requires.dollar found.run
    found.end c.requires.unbraced c.if-start-end.true

pub returns-clause-ok : goal.returns-clause-ok
returns-clause-ok c =
    let found = c.name_end-end.ensures in
    short_at c.args.tape.now.source.now c.args.at c.name_end-end.result c.requires.dollar found.run found.end
    c.if-start-end.false found.within
