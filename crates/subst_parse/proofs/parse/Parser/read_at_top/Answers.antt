use Rattle.std.proofs.Common.{◌+◌, length, drop, ap, ◌∙◌, subst, length-drop, arith}
use Rattle.subst_language.specs.Language.Bytes.{IsPlain}
use Rattle.subst_language.specs.Language.Name.{BeginsWithNo}
use Rattle.subst_parse.proofs.ParserLemmas.{dollar_if_not_plain, reading_run, steps_after}
use Rattle.subst_parse.proofs.parse.Parser.read_at_top.Goals as goal

pub read_escape-requires-clause-reading : goal.read_escape-requires-clause-reading
read_escape-requires-clause-reading g c =
    let found = c.find_special-self.ensures in
    let p = c.args.self.now in
    let (first, known, reading) = c.requires.reading in (
      first,
      rw (c.byte_at.ensures.same ∙ found.same) known,
      reading_run p c.byte_at.new.self c.find_special-self.result (c.byte_at.ensures.same ∙ found.same)
          reading c.requires.top found.within found.run,
    )

pub read_placeholder-requires-clause-reading : goal.read_placeholder-requires-clause-reading
read_placeholder-requires-clause-reading g c =
    let found = c.find_special-self.ensures in
    let p = c.args.self.now in
    let (first, known, reading) = c.requires.reading in (
      first,
      rw (c.byte_at.ensures.same ∙ found.same) known,
      reading_run p c.byte_at.new.self c.find_special-self.result (c.byte_at.ensures.same ∙ found.same)
          reading c.requires.top found.within found.run,
    )

pub returns-in-None-clause-answer : goal.returns-in-None-clause-answer
returns-in-None-clause-answer g c =
    let found = c.find_special-self.ensures in
    let p = c.args.self.now in
    let same = c.byte_at.ensures.same ∙ found.same in
    let ends = rw found.same at c.in-None.ensures.byte in (
      λ first reading. reading_run p c.byte_at.new.self c.find_special-self.result same reading
          c.requires.top found.within found.run,
      same,
      omega (arith, c.requires.more, simp length-drop at (ap length ends)),
    )

pub read_escape-requires-clause-spelled : goal.read_escape-requires-clause-spelled
read_escape-requires-clause-spelled g c =
    let here = c.in-Some-eq92.ensures in (
      drop (c.find_special-self.result + 1) c.find_special-self.new.self.source.now,
      rw here.same (rw c.in-Some-eq92.field-0-test at here.byte),
    )

pub read_placeholder-requires-clause-spelled : goal.read_placeholder-requires-clause-spelled
read_placeholder-requires-clause-spelled g c =
    let here = c.in-Some.ensures in
    let ends = subst (BeginsWithNo IsPlain) (rw c.find_special-self.ensures.same at here.byte)
    c.find_special-self.ensures.end in (
      drop (c.find_special-self.result + 1) c.find_special-self.new.self.source.now,
      rw here.same (rw (dollar_if_not_plain c.in-Some.field-0 ends c.in-Some.field-0-test.1) at here.byte),
    )

pub returns-in-Some-eq92-clause-answer : goal.returns-in-Some-eq92-clause-answer
returns-in-Some-eq92-clause-answer g c =
    let found = c.find_special-self.ensures in
    let same = c.byte_at.ensures.same ∙ found.same in
    steps_after _ c.args.self.now _ c.read_escape.result _ (λ first reading.
    reading_run c.args.self.now c.byte_at.new.self c.find_special-self.result same reading c.requires.top
    found.within found.run) same (omega (arith, found.run.ends)) c.read_escape.ensures.answer

pub returns-in-Some-clause-answer : goal.returns-in-Some-clause-answer
returns-in-Some-clause-answer g c =
    let found = c.find_special-self.ensures in
    let same = c.byte_at.ensures.same ∙ found.same in
    steps_after _ c.args.self.now _ c.read_placeholder.result _ (λ first reading.
    reading_run c.args.self.now c.byte_at.new.self c.find_special-self.result same reading c.requires.top
    found.within found.run) same (omega (arith, found.run.ends)) c.read_placeholder.ensures.answer
