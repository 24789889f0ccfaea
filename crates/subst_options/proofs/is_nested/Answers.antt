-- The value is the one that `clap` reads.
use Rattle.std.proofs.Common.{Some, ap, codes, sym, ◌∙◌}
use Rattle.clap.proofs.WalkLemmas.{first_value-rows}
use Rattle.clap.specs.Words.{found_of}
use Rattle.subst_options.proofs.is_nested.Goals as goal

pub returns-in-None : goal.returns-in-None
returns-in-None c = sym (c.in-None.ensures ∙ first_value-rows (found_of c.args.matches.now) (codes "nested"))

pub returns-in-Some-json : goal.returns-in-Some-json
returns-in-Some-json c =
    sym (c.in-Some-json.ensures ∙ first_value-rows (found_of c.args.matches.now) (codes "nested"))
    ∙ ap Some c.in-Some-json.is-json
