use Rattle.std.proofs.Common.{ap}
use Rattle.subst_parse.specs.declared.parse.Parser.{Parser}
use Rattle.subst_parse.proofs.ParserLemmas.{reading_closed, innermost_closes, stepped}
use Rattle.subst_language.proofs.Language.ListLemmas.{position_inside, split_last, pop_front}
use Rattle.subst_parse.proofs.parse.Parser.close_default.Goals as goal

pub close-requires : goal.close-requires
close-requires g c =
    let (first, known, reading) = c.requires.reading in
    let split = split_last c.args.self.now.defaults.items c.args.innermost c.requires.innermost in
    innermost_closes c.args.self.now c.flush_literal.new.self split.0 c.args.innermost first reading
    (c.in_ok-flush_literal.ensures.flushed first reading) split.1

pub returns-clause-answer : goal.returns-clause-answer
returns-clause-answer g c = stepped _ _ c.requires.reading.0 c.requires.reading.2 (λ first reading.
    let old = c.args.self.now in
    let mid = c.flush_literal.new.self in
    let given = c.in_ok-flush_literal.ensures.flushed first reading in
    let split = split_last old.defaults.items c.args.innermost c.requires.innermost in
    let same = ap (λ (p : Parser _). p.defaults) given.kept in
    let popped = pop_front c.pop.new.self.items mid.defaults.items split.0 c.args.innermost mid.defaults.len
    (rw same split.1) mid.defaults.ok.0 c.pop.ensures.rest in
    reading_closed old mid split.0 _ c.pop.new.self c.args.innermost reading given
    (position_inside old.tape.source.now old.at _ _ c.requires.spelled) c.requires.spelled c.requires.closes
    split.1 popped (c.close.ensures first))
