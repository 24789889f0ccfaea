use Rattle.std.proofs.Common.{◌≡◌, ◌-◌, List, length, reverse, Some, None, refl, sym, ap, ◌∙◌, subst, arith}
use Rattle.std.specs.List.{slice_get}
use Rattle.subst_parse.specs.declared.parse.OpenDefault.{OpenDefault}
use Rattle.subst_parse.proofs.ParserLemmas.{reading_bare}
use Rattle.subst_language.proofs.Language.ListLemmas.{position_inside, no_last}
use Rattle.subst_parse.proofs.StackHoldsLemmas.{holds_open}
use Rattle.subst_parse.proofs.parse.Parser.close_brace.Goals as goal
use Rattle.subst_parse.proofs.parse.Parser.close_brace.Goals.{in_default-via-in-Some+else-innermost-self, in_default-via-in_default}

pub returns-in_default-clause-answer : goal.returns-in_default-clause-answer
returns-in_default-clause-answer g c =
    let p = c.args.self.now in
    let s = p.tape.source.now in
    let inside = position_inside s p.at _ _ c.requires.spelled in
    let last = sym c.last.ensures.value ∙ sym c.copied.ensures in
    elim c.in_default.branch [
      | in_default-via-in-Some+else-innermost-self w ↦
          let found : slice_get p.defaults.items (length p.defaults.items - 1) ≡ Some w.in-Some.innermost =
          subst (λ (xs : List OpenDefault). slice_get xs (length xs - 1) ≡ Some w.in-Some.innermost)
          c.deref.ensures.value (last ∙ w.in-Some.is) in (
            λ first reading. reading_bare p w.in-Some.innermost reading inside c.requires.inside
                c.requires.spelled found w.if-innermost-self.false,
            refl,
            omega arith,
          )
      | in_default-via-in_default w ↦
          let none : slice_get p.defaults.items (length p.defaults.items - 1) ≡ None =
          subst (λ (xs : List OpenDefault). slice_get xs (length xs - 1) ≡ None) c.deref.ensures.value
          (last ∙ w.in_default.is) in
          let some = holds_open s (reverse p.defaults.items) p.depth c.requires.reading.2.parts
          p.literal_start p.at
          c.requires.inside c.requires.reading.2.nested in
          let no_default = ap reverse (no_last p.defaults.items none) in
          absurd cc
    ]
