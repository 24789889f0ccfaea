-- After the run of inner bytes: the end, or one of four bytes.
use Rattle.std.proofs.Common.{◌+◌, length, drop, refl, ap, ◌∙◌, subst, length-drop, arith}
use Rattle.subst_language.specs.Language.Name.{BeginsWithNo}
use Rattle.subst_parse.specs.Inner.{IsInner}
use Rattle.subst_parse.proofs.InnerLemmas.{closing_if_not_inner}
use Rattle.subst_parse.proofs.ParserLemmas.{reading_opening, reading_inner, steps_after}
use Rattle.subst_parse.proofs.parse.Parser.read_in_default.Goals as goal

pub read_escape-requires-clause-reading : goal.read_escape-requires-clause-reading
read_escape-requires-clause-reading g c =
    let found = c.find_inner-self.ensures in
    let (first, known, reading) = c.requires.reading in (
      first,
      rw (c.byte_at.ensures.same ∙ found.same) known,
      reading_inner c.args.self.now c.byte_at.new.self c.find_inner-self.result
          (c.byte_at.ensures.same ∙ found.same) reading c.requires.inside found.within found.run,
    )

pub read_placeholder-requires-clause-reading : goal.read_placeholder-requires-clause-reading
read_placeholder-requires-clause-reading g c =
    let found = c.find_inner-self.ensures in
    let (first, known, reading) = c.requires.reading in (
      first,
      rw (c.byte_at.ensures.same ∙ found.same) known,
      reading_inner c.args.self.now c.byte_at.new.self c.find_inner-self.result
          (c.byte_at.ensures.same ∙ found.same) reading c.requires.inside found.within found.run,
    )

pub close_brace-requires-clause-reading : goal.close_brace-requires-clause-reading
close_brace-requires-clause-reading g c =
    let found = c.find_inner-self.ensures in
    let (first, known, reading) = c.requires.reading in (
      first,
      rw (c.byte_at.ensures.same ∙ found.same) known,
      reading_inner c.args.self.now c.byte_at.new.self c.find_inner-self.result
          (c.byte_at.ensures.same ∙ found.same) reading c.requires.inside found.within found.run,
    )

pub returns-in-None-clause-answer : goal.returns-in-None-clause-answer
returns-in-None-clause-answer g c =
    let found = c.find_inner-self.ensures in
    let same = c.byte_at.ensures.same ∙ found.same in
    let ends = rw found.same at c.in-None.ensures.byte in (
      λ first reading. reading_inner c.args.self.now c.byte_at.new.self c.find_inner-self.result same reading
          c.requires.inside found.within found.run,
      same,
      omega (arith, c.requires.more, simp length-drop at (ap length ends)),
    )

pub returns-in-Some-eq123-clause-answer : goal.returns-in-Some-eq123-clause-answer
returns-in-Some-eq123-clause-answer g c =
    let found = c.find_inner-self.ensures in
    let here = c.in-Some-eq123.ensures in
    let same = here.same ∙ found.same in (
      λ first reading. reading_opening _
          (reading_inner c.args.self.now c.byte_at.new.self c.find_inner-self.result same reading
          c.requires.inside found.within found.run)
          (rw here.same (here.within refl)) c.requires.inside
          (rw here.same (rw c.in-Some-eq123.field-0-test at here.byte)),
      same,
      omega (arith, found.run.ends),
    )

pub read_escape-requires-clause-spelled : goal.read_escape-requires-clause-spelled
read_escape-requires-clause-spelled g c =
    let here = c.in-Some-eq92.ensures in (
      drop (c.find_inner-self.result + 1) c.find_inner-self.new.self.source.now,
      rw here.same (rw c.in-Some-eq92.field-0-test at here.byte),
    )

pub read_placeholder-requires-clause-spelled : goal.read_placeholder-requires-clause-spelled
read_placeholder-requires-clause-spelled g c =
    let here = c.in-Some-eq36.ensures in (
      drop (c.find_inner-self.result + 1) c.find_inner-self.new.self.source.now,
      rw here.same (rw c.in-Some-eq36.field-0-test at here.byte),
    )

pub close_brace-requires-clause-spelled : goal.close_brace-requires-clause-spelled
close_brace-requires-clause-spelled g c =
    let here = c.in-Some.ensures in
    let other = c.in-Some.field-0-test in
    let ends = subst (BeginsWithNo IsInner) (rw c.find_inner-self.ensures.same at here.byte)
    c.find_inner-self.ensures.end in
    rw here.same (rw (closing_if_not_inner c.in-Some.field-0 ends other.0.0.1 other.0.1 other.1) at here.byte)

pub returns-in-Some-eq92-clause-answer : goal.returns-in-Some-eq92-clause-answer
returns-in-Some-eq92-clause-answer g c =
    let found = c.find_inner-self.ensures in
    let same = c.byte_at.ensures.same ∙ found.same in
    steps_after _ c.args.self.now _ c.read_escape.result _ (λ first reading.
    reading_inner c.args.self.now c.byte_at.new.self c.find_inner-self.result same reading
    c.requires.inside found.within found.run) same (omega (arith, found.run.ends))
    c.read_escape.ensures.answer

pub returns-in-Some-eq36-clause-answer : goal.returns-in-Some-eq36-clause-answer
returns-in-Some-eq36-clause-answer g c =
    let found = c.find_inner-self.ensures in
    let same = c.byte_at.ensures.same ∙ found.same in
    steps_after _ c.args.self.now _ c.read_placeholder.result _ (λ first reading.
    reading_inner c.args.self.now c.byte_at.new.self c.find_inner-self.result same reading
    c.requires.inside found.within found.run) same (omega (arith, found.run.ends))
    c.read_placeholder.ensures.answer

pub returns-in-Some-clause-answer : goal.returns-in-Some-clause-answer
returns-in-Some-clause-answer g c =
    let found = c.find_inner-self.ensures in
    let same = c.byte_at.ensures.same ∙ found.same in
    steps_after _ c.args.self.now _ c.close_brace.result _ (λ first reading.
    reading_inner c.args.self.now c.byte_at.new.self c.find_inner-self.result same reading
    c.requires.inside found.within found.run) same (omega (arith, found.run.ends))
    c.close_brace.ensures.answer
