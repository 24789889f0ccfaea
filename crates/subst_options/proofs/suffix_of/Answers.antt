-- The suffix is the one that `clap` reads.
use Rattle.std.proofs.Common.{[], ap, codes, unwrap_or, ◌∙◌}
use Rattle.clap.proofs.WalkLemmas.{first_value-rows}
use Rattle.clap.specs.Words.{found_of}
use Rattle.subst_options.proofs.suffix_of.Goals as goal

pub returns-in_default : goal.returns-in_default
returns-in_default c = ap (λ o. unwrap_or o [])
    (c.in_default.ensures ∙ first_value-rows (found_of c.args.matches.now) (codes "strip"))

pub returns : goal.returns
returns c = ap (λ o. unwrap_or o [])
    (c.in-Some.ensures ∙ first_value-rows (found_of c.args.matches.now) (codes "strip"))
