-- By the names before, and the one with this number.
use Rattle.std.proofs.Common.{◌++◌, ◌∷◌, [], ◌≤◌, length, sym, ap, ◌∙◌, arith}
use Rattle.std.proofs.lemmas.List.{length-map, map-append, take_all}
use Rattle.subst_indexed.specs.Numbering.{first_uses}
use Rattle.subst_language.specs.Language.Variables.{variables_of}
use Rattle.subst_rows.specs.Columns.{bytes_of, names_at}
use Rattle.subst_rows.proofs.ListLemmas.{take_given, take_past}
use Rattle.subst_rows.proofs.columns.names_of.Goals as goal

pub returns-in-None : goal.returns-in-None
returns-in-None c = λ t spells.
    c.loop-number.invariant t spells
    ∙ take_past (names_at t) c.loop-number.number (c.in-None.ensures.name t spells)

pub loop-number-preserved : goal.loop-number-preserved
loop-number-preserved c = λ t spells.
    ap bytes_of c.in_ok-push-in-Some.ensures.items
    ∙ map-append (λ name. name.now) c.loop-number.names.items (c.in-Some.name ∷ [])
    ∙ ap (λ xs. xs ++ c.in-Some.name.now ∷ []) (c.loop-number.invariant t spells)
    ∙ sym (take_given (names_at t) c.loop-number.number c.in-Some.name.now (c.in-Some.ensures.name t spells))

pub returns : goal.returns
returns c = λ t spells.
    let past : length (names_at t) ≤ c.loop-number.number =
    omega (
      arith,
      c.name_count-count.ensures.count t spells,
      length-map (first_uses (variables_of 0 t)) (λ it. it.name),
    )
    in
    c.loop-number.invariant t spells ∙ take_all c.loop-number.number (names_at t) past
