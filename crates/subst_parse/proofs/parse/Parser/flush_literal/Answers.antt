use Rattle.subst_parse.proofs.ParserLemmas.{flushed_some, flushed_none, literal_fits}
use Rattle.subst_parse.proofs.parse.Parser.flush_literal.Goals as goal
use Rattle.subst_parse.proofs.parse.Parser.flush_literal.Goals.{then-self+in_ok-take, else-self}

pub take-requires-clause-fits : goal.take-requires-clause-fits
take-requires-clause-fits g c =
    let (first, known, reading) = c.requires in
    literal_fits c.args.self.now first known reading c.if-self.true

pub returns-clause-flushed : goal.returns-clause-flushed
returns-clause-flushed g c first reading =
    let p = c.args.self.now in
    elim c.if-self.branch [
      | then-self+in_ok-take w ↦
          rw w.self-is (flushed_some p w.take.new.self reading w.if-self.true
          (w.in_ok-take.ensures.taken first reading.parts reading.held))
      | else-self w ↦ rw w.self-is (flushed_none p reading w.if-self.false)
    ]
