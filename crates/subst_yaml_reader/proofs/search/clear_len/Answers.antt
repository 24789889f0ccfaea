use Rattle.std.proofs.Common.{◌∙◌, w8, refl, arith}
use Rattle.std.proofs.lemmas.Simd.{chunk-fits, length-chunk, zip2_of_maps, zip2_splat}
use lib.Lanes.{chunk}
use Rattle.subst_yaml_reader.proofs.SearchLemmas.{first_lane, len_before_within}
use Rattle.subst_yaml_reader.specs.Search.{may_be_foreign}
use Rattle.subst_yaml_reader.proofs.search.clear_len.Goals as goal

pub returns-clause-len : goal.returns-clause-len
returns-clause-len c =
    let bytes = chunk 0 32 c.args.text.now in
    let long = length-chunk 0 32 c.args.text.now c.requires in
    let fits = chunk-fits w8 0 32 c.args.text.now c.type_inv.text in
    let control = zip2_of_maps _ _ _ bytes (zip2_splat _ bytes 32 32 long) (zip2_splat _ bytes 32 10 long) in
    let low = zip2_of_maps _ _ _ bytes control (zip2_splat _ bytes 32 127 long) in
    let high = zip2_of_maps _ _ _ bytes (zip2_splat _ bytes 32 226 long) (zip2_splat _ bytes 32 239 long) in
    let first = zip2_of_maps _ _ _ bytes low (zip2_splat _ bytes 32 194 long) in
    c.first_set.ensures ∙ first_lane _ may_be_foreign bytes _ long fits
    (zip2_of_maps _ _ _ bytes first high) refl

pub returns-clause-within : goal.returns-clause-within
returns-clause-within c =
    let bound = len_before_within may_be_foreign 32 c.args.text.now c.requires in
    omega (arith, bound, returns-clause-len c)
