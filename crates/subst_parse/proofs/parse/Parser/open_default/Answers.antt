use Rattle.std.proofs.Common.{ap, arith}
use Rattle.subst_language.specs.Language.Bytes.{colon}
use Rattle.std.proofs.lemmas.Result.{err_from_is_err_and}
use Rattle.subst_parse.specs.declared.parse.Parser.{Parser}
use Rattle.subst_parse.proofs.ParserLemmas.{open_fits, reading_opened, contains_default, head_inside, stepped}
use Rattle.subst_parse.proofs.parse.Parser.open_default.Goals as goal

pub open-requires : goal.open-requires
open-requires g c =
    let (first, known, reading) = c.requires.reading in
    open_fits c.args.self.now c.flush_literal.new.self c.args.name first known reading
    (c.in_ok-flush_literal.ensures.flushed first reading) c.requires.head

pub returns-clause-answer : goal.returns-clause-answer
returns-clause-answer g c = stepped _ _ c.requires.reading.0 c.requires.reading.2 (λ first reading.
    let given = c.in_ok-flush_literal.ensures.flushed first reading in
    reading_opened c.args.self.now c.flush_literal.new.self _ c.push.new.self c.args.name
    c.in_ok-part.part reading given c.requires.head (c.in_ok-part.ensures.index first given.parts given.held)
    (c.in_ok-part.ensures.taken first given.parts given.held) c.in_ok-push.ensures.items)

pub overflow_add-self : goal.overflow_add-self
overflow_add-self g c =
    let (first, known, reading) = c.requires.reading in
    let depth = ap (λ (p : Parser _). p.depth) c.in_ok-flush_literal.ensures.kept in
    let p = c.args.self.now in
    omega (
      arith,
      depth,
      reading.small,
      reading.within,
      reading.shallow,
      head_inside p.tape.source.now p.at c.args.name colon c.requires.head reading.within,
      c.requires.head.starts,
      c.requires.head.named.ends,
    )

pub overflow_add-self-2 : goal.overflow_add-self-2
overflow_add-self-2 g c =
    let p = c.args.self.now in
    omega (
      arith,
      c.requires.reading.2.small,
      head_inside p.tape.source.now p.at c.args.name colon c.requires.head c.requires.reading.2.within,
    )

pub returns-in_err-part-clause-answer : goal.returns-in_err-part-clause-answer
returns-in_err-part-clause-answer g c =
    let gone = c.from_residual-in_err-part in
    let (e, is, gives) = err_from_is_err_and gone.result gone.ensures.1 in
    rw (is, gives) (
      tt,
      λ first reading.
          let given = c.in_ok-flush_literal.ensures.flushed first reading in
          (given.parts, c.in_err-part.ensures.kept first given.parts given.held),
      λ none. absurd (none c.in_err-part.ensures.cause),
    )

pub returns-in_err-push-clause-answer : goal.returns-in_err-push-clause-answer
returns-in_err-push-clause-answer g c =
    let gone = c.from_residual-in_err-push in
    let (e, is, gives) = err_from_is_err_and gone.result gone.ensures.1 in
    rw (is, gives) (
      tt,
      λ first reading.
          let given = c.in_ok-flush_literal.ensures.flushed first reading in
          (_, c.in_ok-part.ensures.taken first given.parts given.held),
      λ none. contains_default c.args.self.now.tape.source.now c.args.self.now.at c.args.name
          c.requires.head,
    )
