-- Texts whose braces match: the end of such a text, and two of them concatenated.
use Rattle.std.proofs.Common.{◌≡◌, ℕ, List, ◌∷◌, ◌++◌, refl, append_assoc, arith}
use Rattle.subst_language.specs.Language.Bytes.{closing_brace}
use Rattle.subst_language.specs.Language.Balanced.{IsBalanced}
use Rattle.subst_language.specs.Language.Balanced.IsBalanced.{empty, byte, escape, braces}
use Rattle.subst_language.proofs.Language.ListLemmas.{first_same}

-- two balanced prefixes of one text that are both followed by a closing brace are equal
pub cut_unique : {x u : List ℕ} → IsBalanced x → IsBalanced u → (y v : List ℕ)
    → x ++ closing_brace ∷ y ≡ u ++ closing_brace ∷ v → (x ≡ u) × (y ≡ v)
cut_unique empty empty y v e = (refl, cc)
cut_unique empty (byte n o c b) y v e = absurd (c cc)
cut_unique (byte n o c b) empty y v e = absurd (c cc)
cut_unique (byte {b = a} {x = x} n o c b) (byte {x = u} n' o' c' b') y v e =
    let s = cut_unique b b' y v cc in (cc (s.0), s.1)
cut_unique (byte n o c b) (escape b') y v e = absurd (n cc)
cut_unique (byte n o c b) (braces b' d') y v e = absurd (o cc)
cut_unique (escape b) (byte n o c b') y v e = absurd (n cc)
cut_unique (braces b d) (byte n o c b') y v e = absurd (o cc)
cut_unique (escape b) (escape b') y v e = let s = cut_unique b b' y v cc in (cc (s.0), s.1)
cut_unique (braces {x = x} {y = w} b d) (braces {x = u} {y = z} b' d') y v e =
    let l = append_assoc x (closing_brace ∷ w) (closing_brace ∷ y) in
    let r = append_assoc u (closing_brace ∷ z) (closing_brace ∷ v) in
    let inner = cut_unique b b' (w ++ closing_brace ∷ y) (z ++ closing_brace ∷ v) cc in
    let outer = cut_unique d d' y v (inner.1) in
    (cc (inner.0, outer.0), outer.1)
cut_unique _ _ y v e = absurd (omega (arith, first_same e))

-- two balanced texts concatenated are balanced
pub balanced_append : {x y : List ℕ} → IsBalanced x → IsBalanced y → IsBalanced (x ++ y)
balanced_append empty c = c
balanced_append (byte n o k b) c = byte n o k (balanced_append b c)
balanced_append (escape b) c = escape (balanced_append b c)
balanced_append (braces b b') c = rw append_assoc (braces b (balanced_append b' c))
