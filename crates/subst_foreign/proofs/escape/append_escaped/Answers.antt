-- The written bytes and the rest, escaped, are the text escaped in each turn, up to the end.
use Rattle.std.proofs.Common.{◌∷◌, ◌++◌, ◌+◌, take, slice_range, sym, arith, rules}
use Rattle.std.proofs.lemmas.Grind.{common_steps}
use Rattle.subst_language.specs.Language.Bytes.{backslash}
use Rattle.subst_foreign.proofs.BoundaryLemmas.{boundaries_of_special}
use Rattle.subst_foreign.proofs.SearchLemmas.{escaped_length, escaped_turn, escaped_turn_length, escaped-none}
use Rattle.subst_foreign.proofs.escape.append_escaped.Goals as goal

pub range-requires-clause-end_boundary : goal.range-requires-clause-end_boundary
range-requires-clause-end_boundary c =
    (boundaries_of_special c.loop-at.rest.now c.in-Some.at (sym c.in-Some.ensures) c.loop-at.invariant.0).0

pub returns-in_err-push_str-clause-full : goal.returns-in_err-push_str-clause-full
returns-in_err-push_str-clause-full c =
    let so_far = c.loop-at.invariant.1 in
    let turn = escaped_turn_length so_far.0 c.loop-at.rest.now c.args.text.now c.in-Some.at so_far.2
    (sym c.in-Some.ensures) in
    grind (arith, common_steps, turn)

pub range-requires-in-Some-clause-start_boundary : goal.range-requires-in-Some-clause-start_boundary
range-requires-in-Some-clause-start_boundary c = λ some.
    (boundaries_of_special c.loop-at.rest.now c.in-Some.at (sym c.in-Some.ensures) c.loop-at.invariant.0).0

pub range-requires-in-Some-clause-end_boundary : goal.range-requires-in-Some-clause-end_boundary
range-requires-in-Some-clause-end_boundary c =
    (boundaries_of_special c.loop-at.rest.now c.in-Some.at (sym c.in-Some.ensures) c.loop-at.invariant.0).1

pub returns-in_err-append_after_backslash-clause-full : goal.returns-in_err-append_after_backslash-clause-full
returns-in_err-append_after_backslash-clause-full c =
    let so_far = c.loop-at.invariant.1 in
    let turn = escaped_turn_length so_far.0 c.loop-at.rest.now c.args.text.now c.in-Some.at so_far.2
    (sym c.in-Some.ensures) in
    grind (arith, common_steps, turn)

pub range_from-rest-requires : goal.range_from-rest-requires
range_from-rest-requires c = λ some.
    (boundaries_of_special c.loop-at.rest.now c.in-Some.at (sym c.in-Some.ensures) c.loop-at.invariant.0).1

pub loop-at-preserved : goal.loop-at-preserved
loop-at-preserved c =
    let so_far = c.loop-at.invariant.1 in
    let rest = c.loop-at.rest.now in
    let k = c.in-Some.at in
    let turn = escaped_turn so_far.0 rest c.args.text.now k so_far.2 (sym c.in-Some.ensures) in (
      search rules,
      (
        (so_far.0 ++ take k rest) ++ backslash ∷ slice_range rest k (k + 1),
        grind (arith, common_steps),
        rw c.range_from-rest.ensures.value turn,
        grind (arith, common_steps),
      ),
      grind (arith, common_steps),
    )

pub returns-clause-escaped : goal.returns-clause-escaped
returns-clause-escaped c =
    let none = escaped-none c.loop-at.rest.now (sym c.in_default.ensures) in
    grind (arith, common_steps, none)

pub returns-clause-full : goal.returns-clause-full
returns-clause-full c =
    let so_far = c.loop-at.invariant.1 in
    let whole = escaped_length so_far.0 c.loop-at.rest.now c.args.text.now so_far.2 in
    let none = escaped-none c.loop-at.rest.now (sym c.in_default.ensures) in
    grind (arith, common_steps, whole, none)
