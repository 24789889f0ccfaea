-- Names that are not questions.
use Rattle.std.proofs.Common.{◌≡◌, ◌≢◌, ◌==◌, ◌<◌, false, ℕ, List, [], ◌∷◌, None, refl, ap, arith}
use Rattle.std.proofs.lemmas.Bool.Decides.{nat_tests}
use Rattle.std.proofs.lemmas.Str.Pattern.{strip_prefix_char}
use Rattle.std.specs.Str.Pattern.{FindsCharPrefix}
use Rattle.subst_foreign.specs.Question.{by_question, value_of, is_missing, is_empty}
use Rattle.subst_language.specs.Language.LookUp.{LookUp}
use Rattle.subst_language.specs.Maps.{without_empty}

-- a name that begins with none of the three digits has its value, unless it is empty
pub no_question : (look : LookUp) (name : List ℕ) → FindsCharPrefix value_of name None
    → FindsCharPrefix is_missing name None → FindsCharPrefix is_empty name None
    → by_question look name ≡ without_empty look name
no_question look [] no_value no_missing no_empty = refl
no_question look (b ∷ name) no_value no_missing no_empty = rw (
  differs value_of (omega arith) no_value,
  differs is_missing (omega arith) no_missing,
  differs is_empty (omega arith) no_empty,
) refl
  where
    differs : (digit : ℕ) → digit < 128 → FindsCharPrefix digit (b ∷ name) None → (b == digit) ≡ false
    differs digit low none =
        let other : b ≢ digit =
        λ same. strip_prefix_char digit (b ∷ name) None none low name (ap (λ x. x ∷ name) same) in
        grind (arith, nat_tests, other)
