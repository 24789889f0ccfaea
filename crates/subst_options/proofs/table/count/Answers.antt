-- The getter has the values of the option's row.
use Rattle.std.proofs.Common.{[], ap, length, sym, ◌∙◌}
use Rattle.std.proofs.lemmas.List.{length-map}
use Rattle.std.specs.Prelude.{unwrap_or}
use Rattle.clap.proofs.WalkLemmas.{raw_values-rows}
use Rattle.clap.specs.Words.{found_of}
use Rattle.subst_options.proofs.table.count.Goals as goal

pub returns-in-Some : goal.returns-in-Some
returns-in-Some c = sym (length-map c.in-Some.values.now (λ value. value.now))
    ∙ ap (λ o. length (unwrap_or o []))
    (c.in-Some.ensures ∙ raw_values-rows (found_of c.args.matches.now) c.args.id.now)

pub returns-in-None : goal.returns-in-None
returns-in-None c = ap (λ o. length (unwrap_or o []))
    (c.in-None.ensures ∙ raw_values-rows (found_of c.args.matches.now) c.args.id.now)
