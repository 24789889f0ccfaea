use Rattle.std.proofs.Common.{◌∙◌, get_or, bit_or}
use Rattle.memchr.proofs.lemmas.LaneLemmas.{HasLanes-zip2}
use Rattle.subst_parse.proofs.LaneLemmas.{either_lane}
use Rattle.subst_parse.proofs.search.either.Goals as goal

pub returns : goal.returns
returns c a b bytes first second =
    let both = HasLanes-zip2 bit_or c.args.first c.args.second c.fits-first.0 c.fits-second.0 in
    record {
      long = both.long;
      each = λ k below.
          let byte = get_or bytes k 0 in
          both.each k below
          ∙ rw (first.each k below, second.each k below) (either_lane (a byte) (b byte));
    }
