-- Escaping of a text, from one special byte to the next.
use Rattle.std.proofs.Common.{rules, ◌≡◌, ℕ, zero, suc, ◌+◌, ◌<◌, true, false, List, [], ◌∷◌, ◌++◌, length, get_or, take, drop, Some, None, refl, sym, ap, ◌∙◌, arith, append_assoc, length-append, slice_range}
use Rattle.std.specs.List.{position}
use Rattle.std.proofs.lemmas.List.Sums.{fails_before_first}
use Rattle.std.proofs.lemmas.List.Quantifiers.{position-Some}
use Rattle.subst_language.specs.Language.Bytes.{backslash}
use Rattle.subst_language.specs.Language.Escaped.{is_special, escaped_byte, escaped}

-- a byte that isn't special stays as it is
escaped_byte-plain : (b : ℕ) → is_special b ≡ false → escaped_byte b ≡ b ∷ []
escaped_byte-plain b plain = rw plain refl

-- a special byte is escaped by a backslash
escaped_byte-special : (b : ℕ) → is_special b ≡ true → escaped_byte b ≡ backslash ∷ b ∷ []
escaped_byte-special b special = rw special refl

-- a text is the same up to an index before which no byte is special; a special byte there is escaped
escaped-at : (k : ℕ) (x : List ℕ) → k < length x → is_special (get_or x k 0) ≡ true
    → ((j : ℕ) → j < k → is_special (get_or x j 0) ≡ false)
    → escaped x ≡ take k x ++ backslash ∷ get_or x k 0 ∷ escaped (drop (suc k) x)
escaped-at k [] inside special plain = absurd (omega arith)
escaped-at zero (b ∷ x) inside special plain = ap (λ y. y ++ escaped x) (escaped_byte-special b special)
escaped-at (suc k) (b ∷ x) inside special plain =
    ap (λ y. y ++ escaped x) (escaped_byte-plain b (plain 0 (omega arith)))
    ∙ ap (λ y. b ∷ y)
    (escaped-at k x (omega arith) special (λ j below. plain (suc j) (omega arith)))

-- a text without special bytes is the same
escaped-all_plain : (x : List ℕ) → ((j : ℕ) → j < length x → is_special (get_or x j 0) ≡ false)
    → escaped x ≡ x
escaped-all_plain [] plain = refl
escaped-all_plain (b ∷ x) plain =
    ap (λ y. y ++ escaped x) (escaped_byte-plain b (plain 0 (omega arith)))
    ∙ ap (λ y. b ∷ y) (escaped-all_plain x (λ j below. plain (suc j) (omega arith)))

-- a text is the same up to its first special byte, which is escaped
pub escaped-found : (x : List ℕ) (k : ℕ) → position is_special x ≡ Some k
    → escaped x ≡ take k x ++ backslash ∷ get_or x k 0 ∷ escaped (drop (k + 1) x)
escaped-found x k found = search (rules, position-Some, escaped-at)

-- if the search finds no special byte, the text is the same
pub escaped-none : (x : List ℕ) → position is_special x ≡ None → escaped x ≡ x
escaped-none x none = search (rules, escaped-all_plain, fails_before_first)

-- the byte at an index, as a slice
one_byte : (x : List ℕ) (k : ℕ) → k < length x → take 1 (drop k x) ≡ get_or x k 0 ∷ []
one_byte [] k inside = absurd (omega arith)
one_byte (b ∷ x) zero inside = refl
one_byte (b ∷ x) (suc k) inside = one_byte x k (omega arith)

-- one turn writes the bytes before the first special byte, a backslash and that byte
pub escaped_turn : (part rest text : List ℕ) (k : ℕ) → part ++ escaped rest ≡ escaped text
    → position is_special rest ≡ Some k
    → ((part ++ take k rest) ++ backslash ∷ slice_range rest k (k + 1)) ++ escaped (drop (k + 1) rest)
    ≡ escaped text
escaped_turn part rest text k so_far found =
    search (rules, position-Some, one_byte, append_assoc, escaped-found)

-- the written bytes and the rest, escaped, are together as long as the text escaped
pub escaped_length : (part rest text : List ℕ) → part ++ escaped rest ≡ escaped text
    → length part + length (escaped rest) ≡ length (escaped text)
escaped_length part rest text so_far = sym (length-append part (escaped rest)) ∙ ap length so_far

-- the lengths in one turn add up to that of the text escaped
pub escaped_turn_length : (part rest text : List ℕ) (k : ℕ) → part ++ escaped rest ≡ escaped text
    → position is_special rest ≡ Some k
    → length part + (length (take k rest) + suc (suc (length (escaped (drop (k + 1) rest)))))
    ≡ length (escaped text)
escaped_turn_length part rest text k so_far found =
    ap (λ n. length part + n) (sym (length-append (take k rest) _))
    ∙ ap (λ y. length part + length y) (sym (escaped-found rest k found))
    ∙ escaped_length part rest text so_far
