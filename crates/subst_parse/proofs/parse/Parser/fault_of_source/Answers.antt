use Rattle.std.proofs.Common.{◌≡◌, List, Some, None, sym, ◌∙◌, subst}
use Rattle.std.proofs.lemmas.Bool.{false≢true}
use Rattle.std.specs.List.{slice_get}
use Rattle.subst_parse.specs.declared.parse.OpenDefault.{OpenDefault}
use Rattle.subst_parse.proofs.ParserLemmas.{outermost_after, fault_unclosed, fault_known, closes_top}
use Rattle.subst_language.proofs.Language.ListLemmas.{no_first}
use Rattle.subst_parse.proofs.parse.Parser.fault_of_source.Goals as goal

pub unclosed-requires : goal.unclosed-requires
unclosed-requires g c =
    let first = sym c.first.ensures.value ∙ sym c.copied.ensures ∙ c.in-Some.is in
    let found = subst (λ (xs : List OpenDefault). slice_get xs 0 ≡ Some c.in-Some.outermost)
    c.deref.ensures.value first in
    outermost_after c.args.self.now c.in-Some.outermost c.requires.reading.2 found

pub returns-else-closes_all-clause-answer : goal.returns-else-closes_all-clause-answer
returns-else-closes_all-clause-answer g c =
    let first = sym c.first.ensures.value ∙ sym c.copied.ensures ∙ c.in-Some.is in
    let found = subst (λ (xs : List OpenDefault). slice_get xs 0 ≡ Some c.in-Some.outermost)
    c.deref.ensures.value first in
    rw c.unclosed.ensures
    (fault_unclosed c.args.self.now c.in-Some.outermost c.requires.reading.2 found
    (λ closes. false≢true (sym c.if-closes_all.false ∙ c.closes_all.ensures.answer.1 closes)))

pub returns-then-closes_all-clause-answer : goal.returns-then-closes_all-clause-answer
returns-then-closes_all-clause-answer g c =
    fault_known c.args.self.now c.args.halt c.requires.reading.2 c.requires.bad
    (c.closes_all.ensures.answer.0 c.if-closes_all.true)

pub returns-in_default-clause-answer : goal.returns-in_default-clause-answer
returns-in_default-clause-answer g c =
    let first = sym c.first.ensures.value ∙ sym c.copied.ensures ∙ c.in_default.is in
    let none = subst (λ (xs : List OpenDefault). slice_get xs 0 ≡ None) c.deref.ensures.value first in
    fault_known c.args.self.now c.args.halt c.requires.reading.2 c.requires.bad
    (closes_top c.args.self.now c.requires.reading.2 (no_first c.args.self.now.defaults.items none))
