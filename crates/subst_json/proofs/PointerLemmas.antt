-- The text of a key in a pointer: characters that aren't escaped.
use Rattle.std.proofs.Common.{◌≡◌, ◌≢◌, ℕ, suc, ◌<◌, ◌≤◌, List, [], ◌∷◌, length, get_or, flat_map, refl, sym, arith, append-nil, inl, inr, ne_eqb}
use Rattle.std.proofs.lemmas.Bool.{cases_lt}
use Rattle.std.proofs.lemmas.Str.{encode_ascii, inside_one}
use Rattle.std.specs.Char.{encode_utf8}
use Rattle.subst_json.specs.Pointer.{escaped_byte}

pub escaped_byte-other : (b : ℕ) → b ≢ 126 → b ≢ 47 → escaped_byte b ≡ b ∷ []
escaped_byte-other b tilde slash = rw (ne_eqb b 126 tilde, ne_eqb b 47 slash)

-- bytes past ASCII aren't escaped
escaped-high : (bs : List ℕ) → ((k : ℕ) → k < length bs → 128 ≤ get_or bs k 0)
    → flat_map escaped_byte bs ≡ bs
escaped-high [] high = refl
escaped-high (b ∷ bs) high =
    let past : 128 ≤ b = high 0 (omega arith) in
    let rest = escaped-high bs (λ k below. high (suc k) (omega arith)) in
    rw (escaped_byte-other b (λ e. omega arith) (λ e. omega arith), rest)

-- a character other than `~` and `/` isn't escaped
pub escaped-char : (c : ℕ) → c ≢ 126 → c ≢ 47 → flat_map escaped_byte (encode_utf8 c) ≡ encode_utf8 c
escaped-char c tilde slash = elim (cases_lt c 128) [
  | inl small ↦ rw (encode_ascii c small, escaped_byte-other c tilde slash)
  | inr large ↦ escaped-high (encode_utf8 c) (λ k below. elim (cases_lt (get_or (encode_utf8 c) k 0) 128) [
    | inl low ↦ absurd (omega (arith, inside_one c [] (encode_utf8 c) k (sym (append-nil _)) below low))
    | inr high ↦ high
  ])
]
