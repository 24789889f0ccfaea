-- The value is the one that `clap` reads.
use Rattle.std.proofs.Common.{◌∙◌}
use Rattle.clap.proofs.WalkLemmas.{first_value-rows}
use Rattle.clap.specs.Words.{found_of}
use Rattle.subst_options.proofs.ArgumentLemmas.{is_some_text}
use Rattle.subst_options.proofs.is_set.Goals as goal

pub returns : goal.returns
returns c = c.is_some.ensures ∙ is_some_text c.get_str.result _
    (c.get_str.ensures ∙ first_value-rows (found_of c.args.matches.now) c.args.id.now)
