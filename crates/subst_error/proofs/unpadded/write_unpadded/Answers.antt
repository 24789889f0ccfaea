-- The whole text of the value is written.
use Rattle.std.specs.Fmt.{WritesOnOk, WritesStyledOnOk}
use Rattle.subst_error.proofs.StyledLemmas.{holds_of_shown}
use Rattle.subst_error.proofs.unpadded.write_unpadded.Goals as goal

pub returns-clause-writes : goal.returns-clause-writes
returns-clause-writes g c =
    holds_of_shown
    (λ bs. WritesOnOk g.W.Write.write_str_gives c.args.f.now c.write_str.result bs c.write_str.new.self)
    c.new-text.result c.write.new.self _ (g.D.Display.output c.args.value) c.new-text.ensures.intact
    c.new-text.ensures.text c.in_ok-write.ensures.writes c.as_str.ensures.value c.write_str.ensures.writes

pub returns-clause-styled : goal.returns-clause-styled
returns-clause-styled g c =
    holds_of_shown
    (λ bs. WritesStyledOnOk g.W.Write.write_str_gives c.args.f.now c.write_str.result bs
    c.write_str.new.self)
    c.new-text.result c.write.new.self _ (g.D.Display.output c.args.value) c.new-text.ensures.intact
    c.new-text.ensures.text c.in_ok-write.ensures.writes c.as_str.ensures.value c.write_str.ensures.styled
