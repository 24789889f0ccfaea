-- Each token is filled in before those after it.
use Rattle.std.proofs.Common.{rules}
use Rattle.subst_json.proofs.compared.is_filled.Goals as goal

pub loop-token-preserved : goal.loop-token-preserved
loop-token-preserved g c =
    let l = c.loop-token in
    let left = rw c.in-Some.ensures.value at l.invariant.left in
    let taken = c.check_token.ensures (search rules) c.next.new.self left in record {
      within = search rules;
      value = search rules;
      filled = λ rest. l.invariant.filled
          (rw c.in-Some.ensures.value (_, _, c.in-Some-next.ensures.value, taken.0, rest));
      left = taken.1;
    }
