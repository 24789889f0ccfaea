use Rattle.std.proofs.Common.{arith}
use Rattle.std.proofs.lemmas.Result.{err_from_is_err_and}
use Rattle.subst_parse.proofs.ParserLemmas.{optional_fits, reading_optional, stepped}
use Rattle.subst_parse.proofs.parse.Parser.add_optional.Goals as goal

pub take_optional-requires : goal.take_optional-requires
take_optional-requires g c =
    let (first, known, reading) = c.requires.reading in
    optional_fits c.args.self.now c.flush_literal.new.self c.args.name first known reading
    (c.in_ok-flush_literal.ensures.flushed first reading) c.requires.optional

pub returns-clause-answer : goal.returns-clause-answer
returns-clause-answer g c = stepped _ _ c.requires.reading.0 c.requires.reading.2 (λ first reading.
    let given = c.in_ok-flush_literal.ensures.flushed first reading in
    reading_optional c.args.self.now c.flush_literal.new.self _ c.args.name _ reading given
    c.requires.optional (c.in_ok-take_optional.ensures.taken first given.parts given.held) (omega arith))

pub returns-in_err-take_optional-clause-answer : goal.returns-in_err-take_optional-clause-answer
returns-in_err-take_optional-clause-answer g c =
    let gone = c.from_residual-in_err-take_optional in
    let (e, is, gives) = err_from_is_err_and gone.result gone.ensures.1 in
    rw (is, gives) (
      tt,
      λ first reading.
          let given = c.in_ok-flush_literal.ensures.flushed first reading in
          (given.parts, c.in_err-take_optional.ensures.kept first given.parts given.held),
      λ none. absurd (none c.in_err-take_optional.ensures.cause),
    )
