use Rattle.std.proofs.Common.{◌≡◌, List, Some, None, sym, ◌∙◌, subst}
use Rattle.std.specs.List.{slice_get}
use Rattle.subst_parse.specs.declared.parse.OpenDefault.{OpenDefault}
use Rattle.subst_language.proofs.Language.ListLemmas.{no_first}
use Rattle.subst_parse.proofs.ParserLemmas.{outermost_after, read_before_open, fault_at_end, holds_template}
use Rattle.subst_parse.proofs.parse.Parser.finish.Goals as goal

pub unclosed-requires : goal.unclosed-requires
unclosed-requires g c =
    let first = sym c.first.ensures.value ∙ sym c.copied.ensures ∙ c.in-Some.is in
    let found = subst (λ (xs : List OpenDefault). slice_get xs 0 ≡ Some c.in-Some.outermost)
    c.deref.ensures.value first in
    outermost_after c.args.self.now c.in-Some.outermost c.requires.reading.2 found

pub returns-in-Some-clause-err : goal.returns-in-Some-clause-err
returns-in-Some-clause-err g c =
    let first = sym c.first.ensures.value ∙ sym c.copied.ensures ∙ c.in-Some.is in
    let found = subst (λ (xs : List OpenDefault). slice_get xs 0 ≡ Some c.in-Some.outermost)
    c.deref.ensures.value first in
    rw c.unclosed.ensures
    (fault_at_end c.args.self.now c.in-Some.outermost c.requires.reading.2 c.requires.end found)

pub returns-in-Some-clause-some : goal.returns-in-Some-clause-some
returns-in-Some-clause-some g c =
    let first = sym c.first.ensures.value ∙ sym c.copied.ensures ∙ c.in-Some.is in
    let found = subst (λ (xs : List OpenDefault). slice_get xs 0 ≡ Some c.in-Some.outermost)
    c.deref.ensures.value first in
    read_before_open c.args.self.now c.in-Some.outermost c.requires.reading.2 found

pub returns-clause-ok : goal.returns-clause-ok
returns-clause-ok g c =
    let first = sym c.first.ensures.value ∙ sym c.copied.ensures ∙ c.in_default.is in
    let none = subst (λ (xs : List OpenDefault). slice_get xs 0 ≡ None) c.deref.ensures.value first in
    λ first reading. holds_template c.args.self.now c.flush_literal.new.self reading
    (c.in_ok-flush_literal.ensures.flushed first reading) c.requires.end
    (no_first c.args.self.now.defaults.items none)
