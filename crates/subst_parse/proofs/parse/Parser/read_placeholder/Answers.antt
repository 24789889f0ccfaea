use Rattle.std.proofs.Common.{arith}
use Rattle.subst_language.specs.Language.Bytes.{closing_brace}
use Rattle.subst_parse.proofs.PartOfLemmas.{short_part, braced_part}
use Rattle.subst_parse.proofs.ParserLemmas.{head_inside}
use Rattle.subst_parse.proofs.parse.Parser.read_placeholder.Goals as goal

pub add_part-requires-clause-part : goal.add_part-requires-clause-part
add_part-requires-clause-part g c =
    let is = rw c.in-Ok-Short.field-0-is at c.in-Ok-Short.ensures.ok in
    λ i. rw c.placeholder_at.ensures.same
    (short_part c.args.self.now.tape.source.now c.args.self.now.at c.in-Ok-Short.name i is)

pub overflow_add-name : goal.overflow_add-name
overflow_add-name g c =
    let p = c.args.self.now in
    let is = rw c.in-Ok-Braced.field-0-is at c.in-Ok-Braced.ensures.ok in
    let within = head_inside p.tape.source.now p.at c.in-Ok-Braced.name closing_brace is
    c.requires.reading.2.within in
    omega arith

pub add_part-requires-in-Ok-Braced-clause-part : goal.add_part-requires-in-Ok-Braced-clause-part
add_part-requires-in-Ok-Braced-clause-part g c =
    let is = rw c.in-Ok-Braced.field-0-is at c.in-Ok-Braced.ensures.ok in
    λ i. rw c.placeholder_at.ensures.same
    (braced_part c.args.self.now.tape.source.now c.args.self.now.at c.in-Ok-Braced.name i is)

pub add_part-requires-in-Ok-Braced-clause-within : goal.add_part-requires-in-Ok-Braced-clause-within
add_part-requires-in-Ok-Braced-clause-within g c =
    let p = c.args.self.now in
    let is = rw c.in-Ok-Braced.field-0-is at c.in-Ok-Braced.ensures.ok in
    rw c.placeholder_at.ensures.same
    (head_inside p.tape.source.now p.at c.in-Ok-Braced.name closing_brace is c.requires.reading.2.within)
