-- Lemmas on escaped values.
use Rattle.std.proofs.Common.{◌≡◌, ◌≢◌, ◌<◌, ◌-◌, ◌∙◌, ℕ, suc, List, [], ◌∷◌, ◌++◌, length, get_or, take, drop, refl, sym, ap, subst, arith}
use Rattle.std.proofs.Math.Seq.{take-append_seam}
use Rattle.std.proofs.lemmas.Grind.{flat_map-append}
use Rattle.std.proofs.lemmas.List.{length-append}
use Rattle.std.specs.List.{flat_map}
use Rattle.subst_expander.specs.Layers.{word_byte}
use Rattle.std.proofs.lemmas.Bool.{ne_eqb}

-- a text without a single quote, as a word
pub word_whole : (text : List ℕ) → ((i : ℕ) → i < length text → get_or text i 0 ≢ 39)
    → flat_map word_byte text ≡ text
word_whole [] free = refl
word_whole (b ∷ text) free =
    rw (ne_eqb b 39 (free 0 (omega arith)))
    (ap (λ rest. b ∷ rest) (word_whole text (λ i below. free (suc i) (omega (arith, below)))))

-- a text up to its first single quote and after it, as a word
pub word_split : (before after : List ℕ) → ((i : ℕ) → i < length before → get_or before i 0 ≢ 39)
    → flat_map word_byte (before ++ 39 ∷ after) ≡ before ++ 39 ∷ 92 ∷ 39 ∷ 39 ∷ flat_map word_byte after
word_split before after free =
    flat_map-append word_byte before (39 ∷ after)
    ∙ ap (λ front. front ++ 39 ∷ 92 ∷ 39 ∷ 39 ∷ flat_map word_byte after) (word_whole before free)

-- the bytes between the first one and the last one
pub inside : (quoted x : List ℕ) → quoted ≡ 34 ∷ x ++ 34 ∷ []
    → take (length quoted - 1 - 1) (drop 1 quoted) ≡ x
inside quoted x is =
    let count : length quoted - 1 - 1 ≡ length x = omega (arith, ap length is, length-append x (34 ∷ [])) in
    rw count (subst (λ q. take (length x) (drop 1 q) ≡ x) (sym is) (take-append_seam x (34 ∷ [])))
