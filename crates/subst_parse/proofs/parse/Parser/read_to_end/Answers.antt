use Rattle.std.proofs.Common.{arith, ap}
use Rattle.std.proofs.lemmas.Result.{err_from_is_err_and}
use Rattle.subst_parse.specs.declared.tape.Tape.{Tape}
use Rattle.subst_parse.proofs.ParserLemmas.{finishes_after, still_after}
use Rattle.subst_parse.proofs.parse.Parser.read_to_end.Goals as goal

pub returns-clause-ok : goal.returns-clause-ok
returns-clause-ok g c =
    finishes_after c.args.self.now c.loop-self.self c.finish.result c.finish.new.self
    c.loop-self.invariant.reading c.loop-self.invariant.same c.finish.ensures.ok

pub returns-clause-bound : goal.returns-clause-bound
returns-clause-bound g c =
    let (first, known, reading) = c.requires.reading in
    let within = (c.loop-self.invariant.reading first reading).within in
    omega (
      arith,
      c.loop-self.invariant.high,
      rw c.loop-self.invariant.same at within,
      ap (λ (tape : Tape). tape.reads) c.finish.ensures.same,
    )

pub returns-in_err-read_item-clause-held : goal.returns-in_err-read_item-clause-held
returns-in_err-read_item-clause-held g c =
    let gone = c.from_residual in
    let (e, is, gives) = err_from_is_err_and gone.result gone.ensures.1 in
    rw is (λ first reading.
    c.in_err-read_item.ensures.answer.1 first (c.loop-self.invariant.reading first reading))

pub returns-clause-held : goal.returns-clause-held
returns-clause-held g c =
    still_after c.args.self.now c.loop-self.self c.finish.result c.finish.new.self
    c.loop-self.invariant.reading c.finish.ensures.held
