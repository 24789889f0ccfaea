-- Ranges of a token.
use Rattle.std.proofs.Common.{◌≡◌, ℕ, ◌+◌, ◌-◌, ◌≤◌, List, [], ◌∷◌, ◌++◌, length, take, drop, slice_range, sym, ap, ◌∙◌, subst, arith}
use Rattle.std.proofs.lemmas.List.{length-take, take-take}
use Rattle.subst_json.specs.Places.{IsSpelledUntil, IsTokenOf}

-- the start of a range is a range
take-slice_range : (s : List ℕ) (start end len : ℕ) → len ≤ length (slice_range s start end)
    → take len (slice_range s start end) ≡ slice_range s start (start + len)
take-slice_range s start end len h =
    let xs = drop start s in
    let within : len ≤ end - start = omega (arith, h, length-take (end - start) xs) in
    let same : start + len - start ≡ len = omega arith in
    take-take len (end - start) xs within ∙ ap (λ n. take n xs) (sym same)

-- a part of a token spells the same in the text around the token
pub spelled_until : (s token x : List ℕ) (start end len place : ℕ) → token ≡ slice_range s start end
    → place ≡ start + len → len ≤ length token → IsTokenOf (take len token ++ 34 ∷ []) x
    → IsSpelledUntil s start place x
spelled_until s token x start end len place is at within h =
    let fits : len ≤ length (slice_range s start end) = subst (λ t. len ≤ length t) is within in
    let part : take len token ≡ slice_range s start place =
    ap (take len) is ∙ take-slice_range s start end len fits ∙ ap (slice_range s start) (sym at) in
    subst (λ t. IsTokenOf (t ++ 34 ∷ []) x) part h
