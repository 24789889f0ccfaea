-- The sign is the first byte.
use Rattle.std.proofs.Common.{◌≡◌, length, true, Some, subst, rules}
use Rattle.std.specs.Prelude.{slice_index, slice_range}
use Rattle.fast_float.specs.Text.{scan}
use Rattle.serde_json.specs.Data.{Num}
use Rattle.serde_json.specs.Read.{number_from}
use Rattle.subst_json.proofs.NumberLemmas.{with_minus}
use Rattle.subst_json.proofs.compared.is_in_range.Goals as goal

pub returns-then-bytes-eq45 : goal.returns-then-bytes-eq45
returns-then-bytes-eq45 c = λ finite.
    let sign : slice_index c.args.number.now 0 ≡ 45 = search rules in
    with_minus c.args.number.now sign (subst (λ s. (n : Num)
    × (number_from true (scan (slice_range s 1 (length s))) ≡ Some n))
    c.as_bytes-bytes.ensures.value (c.has_finite_float.ensures finite))
