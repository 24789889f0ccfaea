use Rattle.std.proofs.Common.{[], ◌∷◌, length}
use Rattle.std.proofs.lemmas.Result.{err_from_is_err_and}
use Rattle.subst_language.proofs.PartsLemmas.{closed_of_fit}
use Rattle.subst_parse.proofs.ParserLemmas.{part_fits, reading_added, stepped}
use Rattle.subst_parse.proofs.parse.Parser.add_part.Goals as goal

pub take-requires-clause-fits : goal.take-requires-clause-fits
take-requires-clause-fits g c =
    let (first, known, reading) = c.requires.reading in
    let given = c.in_ok-flush_literal.ensures.flushed first reading in
    part_fits c.args.self.now c.flush_literal.new.self c.args.part c.args.end first known reading given
    c.requires.fits (c.requires.part (length given.parts)) c.requires.within c.requires.forward

pub take-requires-clause-closed : goal.take-requires-clause-closed
take-requires-clause-closed g c index =
    (closed_of_fit _ _ c.args.self.now.tape.source.now (c.args.part ∷ []) (c.requires.part index).mean.fit).0

pub returns-clause-answer : goal.returns-clause-answer
returns-clause-answer g c = stepped _ _ c.requires.reading.0 c.requires.reading.2 (λ first reading.
    let given = c.in_ok-flush_literal.ensures.flushed first reading in
    reading_added c.args.self.now c.flush_literal.new.self _ c.args.part c.args.end reading given
    (c.in_ok-take.ensures.taken first given.parts given.held) (c.requires.part (length given.parts))
    c.requires.within c.requires.forward)

pub returns-in_err-take-clause-answer : goal.returns-in_err-take-clause-answer
returns-in_err-take-clause-answer g c =
    let gone = c.from_residual-in_err-take in
    let (e, is, gives) = err_from_is_err_and gone.result gone.ensures.1 in
    rw (is, gives) (
      tt,
      λ first reading.
          let given = c.in_ok-flush_literal.ensures.flushed first reading in
          (given.parts, c.in_err-take.ensures.kept first given.parts given.held),
      λ none. absurd (none c.in_err-take.ensures.cause),
    )
