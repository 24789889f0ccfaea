-- Sources without dollars and backslashes.
use Rattle.std.proofs.Common.{◌≡◌, ◌↔◌, ◌∙◌, ℕ, List, length, None, sym, subst}
use Rattle.std.specs.List.{All}
use Rattle.std.specs.Str.{IsUtf8}
use Rattle.subst_error.specs.Range.{range_of, IsRangeIn}
use Rattle.subst_language.specs.Language.Bytes.{IsPlain}
use Rattle.subst_language.proofs.Language.RangeLemmas.{error_in_text}

-- a source is plain if the bytes before its first dollar or backslash are all its bytes
pub all_plain : {plain len size : ℕ} {bytes source : List ℕ} → bytes ≡ source
    → ((plain ≡ length bytes) ↔ All IsPlain bytes) → plain ≡ len → len ≡ size → length bytes ≡ size
    → All IsPlain source
all_plain same whole is has all = subst (All IsPlain) same (whole.0 (is ∙ has ∙ sym all))

-- the range of an error without a fault is empty and in the text
pub no_range : (s : List ℕ) → IsUtf8 s → IsRangeIn s (range_of None)
no_range s is = error_in_text s (λ name. None) None is tt
