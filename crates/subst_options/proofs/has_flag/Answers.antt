-- The flag is the one that `clap` reads.
use Rattle.std.proofs.Common.{◌∙◌}
use Rattle.clap.proofs.WalkLemmas.{one_text-rows}
use Rattle.clap.specs.Words.{found_of}
use Rattle.subst_options.proofs.has_flag.Goals as goal

pub returns : goal.returns
returns c =
    let read = c.get_flag.ensures in
    let row = one_text-rows (found_of c.args.matches.now) c.args.id.now in (
      λ found. read.value (row ∙ found),
      λ found. read.other (row ∙ found),
      λ found. read.none (row ∙ found),
    )
