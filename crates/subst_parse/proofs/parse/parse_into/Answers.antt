use Rattle.std.proofs.Common.{[], ap, ◌∙◌}
use Rattle.subst_parse.specs.declared.tape.Tape.{Tape}
use Rattle.subst_parse.proofs.ParserLemmas.{finishes_from}
use Rattle.subst_parse.proofs.parse.parse_into.Goals as goal

pub returns-in-Ok-clause-ok : goal.returns-in-Ok-clause-ok
returns-in-Ok-clause-ok g c =
    finishes_from c.args.source.now c.new-parser.result c.read_to_end-outcome.new.self
    (λ first. g.S.Sink.holds c.args.sink first []) c.new-parser.ensures.reading
    (ap (λ (tape : Tape). tape.source.now) c.new-parser.ensures.source ∙ c.new.ensures.source)
    (rw c.in-Ok.is at c.read_to_end-outcome.ensures.ok)
