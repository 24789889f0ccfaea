use Rattle.std.proofs.Common.{arith}
use Rattle.subst_parse.proofs.PartOfLemmas.{escape_part, escape_within}
use Rattle.subst_parse.proofs.parse.Parser.read_escape.Goals as goal

pub overflow_add-self : goal.overflow_add-self
overflow_add-self g c =
    let p = c.args.self.now in
    let within = escape_within p.tape.source.now p.at c.in-Ok.byte c.in-Ok.ensures.ok
    c.requires.reading.2.within in
    omega arith

pub add_part-requires-clause-part : goal.add_part-requires-clause-part
add_part-requires-clause-part g c =
    λ i. rw c.escape_at.ensures.same
    (escape_part c.args.self.now.tape.source.now c.args.self.now.at c.in-Ok.byte i c.in-Ok.ensures.ok)

pub add_part-requires-clause-within : goal.add_part-requires-clause-within
add_part-requires-clause-within g c =
    let p = c.args.self.now in
    rw c.escape_at.ensures.same
    (escape_within p.tape.source.now p.at c.in-Ok.byte c.in-Ok.ensures.ok c.requires.reading.2.within)
