use Rattle.std.proofs.Common.{◌∙◌, w8, refl, arith}
use Rattle.std.proofs.lemmas.Simd.{chunk-fits, length-chunk, zip2_splat}
use lib.Lanes.{chunk}
use Rattle.subst_yaml_reader.proofs.SearchLemmas.{first_lane, len_before_within}
use Rattle.subst_yaml_reader.specs.Search.{is_line_feed}
use Rattle.subst_yaml_reader.proofs.search.line_len.Goals as goal

pub returns-clause-len : goal.returns-clause-len
returns-clause-len c =
    let bytes = chunk 0 32 c.args.text.now in
    let long = length-chunk 0 32 c.args.text.now c.requires in
    let fits = chunk-fits w8 0 32 c.args.text.now c.type_inv.text in
    c.first_set.ensures ∙ first_lane _ is_line_feed bytes _ long fits (zip2_splat _ bytes 32 10 long) refl

pub returns-clause-within : goal.returns-clause-within
returns-clause-within c =
    let bound = len_before_within is_line_feed 32 c.args.text.now c.requires in
    omega (arith, bound, returns-clause-len c)
