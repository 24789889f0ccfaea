-- The getter has the values of the option's row.
use Rattle.std.proofs.Common.{◌++◌, [], ap, map, ◌∙◌}
use Rattle.std.specs.Prelude.{unwrap_or}
use Rattle.clap.proofs.WalkLemmas.{raw_values-rows}
use Rattle.clap.specs.Words.{found_of}
use Rattle.subst_options.proofs.list.Goals as goal

pub returns-in_default : goal.returns-in_default
returns-in_default c = ap (map (λ value. value.now)) c.new-values.ensures.items
    ∙ ap (λ o. unwrap_or o []) (c.in_default.ensures
    ∙ raw_values-rows (found_of c.args.matches.now) c.args.id.now)

pub returns : goal.returns
returns c =
    let found = ap (λ o. unwrap_or o []) (c.in-Some.ensures
    ∙ raw_values-rows (found_of c.args.matches.now) c.args.id.now) in
    ap (map (λ value. value.now)) (c.in_ok-extend_from_slice.ensures.items
    ∙ ap (λ items. items ++ c.in-Some.found.now) c.new-values.ensures.items) ∙ found
