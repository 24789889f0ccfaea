-- The number is in range, whether an integer or a float.
use Rattle.std.proofs.Common.{◌≡◌, true, rules}
use Rattle.std.specs.Float.{binary64, float_is_finite}
use Rattle.fast_float.specs.Text.{scan, nearest}
use Rattle.subst_json.proofs.NumberLemmas.{in_range}
use Rattle.subst_json.proofs.compared.has_finite_float.Goals as goal

pub returns : goal.returns
returns c = λ finite.
    let is : float_is_finite (nearest binary64 c.args.is_negative
    (scan c.args.digits.now)) ≡ true = search rules in
    in_range c.args.is_negative (scan c.args.digits.now) is
