use Rattle.std.proofs.Common.{◌==◌, eqb, replicate, sym, subst, w8}
use Rattle.std.proofs.lemmas.Simd.{tops_compared}
use Rattle.std.specs.Simd.Lanes.{sel_l}
use Rattle.memchr.proofs.lemmas.LaneLemmas.{HasLanes-select}
use Rattle.subst_parse.specs.Lanes.{HasTest}
use Rattle.subst_parse.proofs.search.equal_to.Goals as goal

pub returns : goal.returns
returns c =
    let v = c.args.bytes in
    let b = c.args.byte in
    let chosen = HasLanes-select eqb v b 255 0 c.fits-bytes.0 in
    subst (λ ms. HasTest (λ x. x == b) v (sel_l ms (replicate 32 255) (replicate 32 0)))
    (sym (tops_compared w8 eqb v (replicate 32 b))) record { long = chosen.long; each = chosen.each }
