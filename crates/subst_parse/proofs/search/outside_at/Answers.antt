use Rattle.std.proofs.Common.{◌<◌, get_or, sym, subst, arith, ⊎_elim}
use Rattle.std.proofs.lemmas.Bool.{cases_lt}
use Rattle.std.proofs.lemmas.List.{get_or_past}
use Rattle.subst_parse.proofs.search.outside_at.Goals as goal

pub returns : goal.returns
returns g c =
    let lanes = c.outside.ensures in
    let P = g.C.ByteClass.is_in in
    record {
      inside = λ k below clear.
          let short : k < 32 = omega arith in
          let low : get_or c.outside.result k 0 < 128 =
          ⊎_elim (λ l. l) (λ high. absurd (omega (arith, clear, (c.top_bits.ensures k).1 high)))
          (cases_lt (get_or c.outside.result k 0) 128) in
          subst P (c.load.ensures.each k short) (lanes.inside k short low);
      outside = λ k set.
          let high = (c.top_bits.ensures k).0 set in
          let short : k < 32 =
          ⊎_elim (λ l. l) (λ past.
          let zero = get_or_past c.outside.result k 0 (omega (arith, lanes.long)) in
          absurd (omega (arith, high, zero))) (cases_lt k 32) in
          (omega arith, λ is. lanes.outside k short high (subst P (sym (c.load.ensures.each k short)) is));
    }
