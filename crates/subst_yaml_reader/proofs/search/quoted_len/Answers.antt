use Rattle.std.proofs.Common.{◌∙◌, w8, refl, arith}
use Rattle.std.proofs.lemmas.Simd.{chunk-fits, length-chunk, zip2_of_maps, zip2_splat}
use lib.Lanes.{chunk}
use Rattle.subst_yaml_reader.proofs.SearchLemmas.{first_lane, len_before_within}
use Rattle.subst_yaml_reader.specs.Search.{may_end_quoted}
use Rattle.subst_yaml_reader.proofs.search.quoted_len.Goals as goal

pub returns-clause-len : goal.returns-clause-len
returns-clause-len c =
    let bytes = chunk 0 32 c.args.text.now in
    let long = length-chunk 0 32 c.args.text.now c.requires in
    let fits = chunk-fits w8 0 32 c.args.text.now c.type_inv.text in
    let quotes = zip2_of_maps _ _ _ bytes (zip2_splat _ bytes 32 34 long) (zip2_splat _ bytes 32 39 long) in
    let others = zip2_of_maps _ _ _ bytes (zip2_splat _ bytes 32 92 long) (zip2_splat _ bytes 32 10 long) in
    c.first_set.ensures
    ∙ first_lane _ may_end_quoted bytes _ long fits (zip2_of_maps _ _ _ bytes quotes others) refl

pub returns-clause-within : goal.returns-clause-within
returns-clause-within c =
    let bound = len_before_within may_end_quoted 32 c.args.text.now c.requires in
    omega (arith, bound, returns-clause-len c)
