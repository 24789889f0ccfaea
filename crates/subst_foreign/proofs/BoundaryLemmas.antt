-- The offsets at which a text may be split: around a special byte, and at the end of a text that it begins
-- with.
use Rattle.std.proofs.Common.{◌≡◌, ℕ, ◌+◌, ◌<◌, true, List, [], ◌∷◌, ◌++◌, length, get_or, Some, refl, sym, arith, append_assoc, subst, encode_utf8}
use Rattle.std.proofs.Math.Utf8.{scalars}
use Rattle.std.proofs.lemmas.Bool.{and_parts}
use Rattle.std.proofs.lemmas.Bool.Decides.{nat_tests}
use Rattle.std.proofs.lemmas.List.Quantifiers.{position-Some}
use Rattle.std.proofs.lemmas.Str.{IsUtf8-past_char, IsCharBoundary-at_seam, IsCharBoundary-before_ascii, IsCharBoundary-after_ascii}
use Rattle.std.specs.List.{position}
use Rattle.std.specs.Str.{IsUtf8, IsCharBoundary, encode_utf8_all}
use Rattle.std.specs.String.Boundary.{IsSplitPoint}
use Rattle.subst_language.specs.Language.Escaped.{is_special}

-- in UTF-8 a special byte is a whole character, so the text may be split before and after it
pub boundaries_of_special : (x : List ℕ) (k : ℕ) → position is_special x ≡ Some k → IsUtf8 x
    → IsCharBoundary x k × IsCharBoundary x (k + 1)
boundaries_of_special x k found utf8 =
    let at = position-Some is_special x k 0 found in
    let ascii = special_is_ascii (get_or x k 0) at.1 in
    (IsCharBoundary-before_ascii x k at.0 ascii, IsCharBoundary-after_ascii x k utf8 at.0 ascii)
  where
    special_is_ascii : (b : ℕ) → is_special b ≡ true → b < 128
    special_is_ascii b special = grind (arith, nat_tests)

-- in UTF-8, the rest after a text that is UTF-8 is UTF-8
after_text : (cs rest : List ℕ) → scalars cs ≡ true → IsUtf8 (encode_utf8_all cs ++ rest) → IsUtf8 rest
after_text [] rest are whole = whole
after_text (c ∷ cs) rest are whole =
    after_text cs rest (and_parts _ _ are).1
    (IsUtf8-past_char _ (encode_utf8_all cs ++ rest) c whole
    (append_assoc (encode_utf8 c) (encode_utf8_all cs) rest))

-- a text may be split after a text that it begins with
pub splits_at_seam : (xs ys : List ℕ) → IsUtf8 xs → IsUtf8 (xs ++ ys) → IsSplitPoint (xs ++ ys) (length xs)
splits_at_seam xs ys (cs, (are, is)) whole =
    let rest = after_text cs ys are (subst (λ x. IsUtf8 (x ++ ys)) (sym is) whole) in
    let at = IsCharBoundary-at_seam (xs ++ ys) xs ys refl rest in
    (at.0, λ some. at.1)
