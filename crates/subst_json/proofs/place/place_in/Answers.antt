use Rattle.std.proofs.Common.{◌≡◌, ◌≤◌, ◌++◌, ◌∷◌, ◌+◌, ◌-◌, [], take, drop, length, ap, subst, arith, rules}
use Rattle.std.specs.Prelude.{string_bytes, slice_range}
use Rattle.std.proofs.lemmas.List.{length-take}
use Rattle.subst_json.specs.Places.{IsTokenOf}
use Rattle.subst_json.proofs.PlaceLemmas.{spelled_until}
use Rattle.subst_json.proofs.place.place_in.Goals as goal

pub returns : goal.returns
returns c =
    let s = c.args.source.now in
    let token = c.args.token in
    let range = c.args.range in
    let text = c.in-Some.text.now in
    let x = string_bytes c.in-Some-2.string in
    let start = c.in-Some-3.start in
    let end = c.in-Some-4.end in
    let is_text : text ≡ slice_range s token.start token.end = search rules in
    let is_string : IsTokenOf text x = search rules in
    let start_is : (start ≤ length text) × (range.start ≤ length x)
    × IsTokenOf (take start text ++ 34 ∷ []) (take range.start x) = search rules in
    let end_is : (end ≤ length text) × (range.end ≤ length x)
    × IsTokenOf (take end text ++ 34 ∷ []) (take range.end x) = search rules in
    let forwards : token.start ≤ token.end = search rules in
    let text_len : length text + token.start ≤ token.end =
    omega (arith, forwards, ap length is_text, length-take (token.end - token.start) (drop token.start s)) in
    record {
      place = record {
        within = search rules;
        after_start = omega arith;
        forwards = search rules;
        before_end = omega (arith, text_len, end_is.0);
        text = x;
        spells = subst (λ t. IsTokenOf t x) is_text is_string;
        start_within = start_is.1;
        end_within = end_is.1;
        start_spelled = spelled_until s text _ token.start token.end start _ is_text
            (omega arith) start_is.0 start_is.2;
        end_spelled = spelled_until s text _ token.start token.end end _ is_text
            (omega arith) end_is.0 end_is.2;
      };
    }
