-- Values that are decoded piece by piece.
use Rattle.std.proofs.Common.{◌≡◌, ℕ, List, ◌∷◌, ◌++◌, Option, Some, None, option_map, refl, ap, append_assoc}
use Rattle.subst_yaml_reader.specs.Values.{added, folded, white_after}
use Rattle.subst_yaml_reader.specs.declared.folded.Piece.{Piece}

-- these bytes, followed by those of a value, if there is one
abbrev pub prefixed : List ℕ → Option (List ℕ) → Option (List ℕ)
prefixed bytes None = None
prefixed bytes (Some more) = Some (bytes ++ more)

pub prefixed_twice : (first second : List ℕ) (value : Option (List ℕ))
    → prefixed (first ++ second) value ≡ prefixed first (prefixed second value)
prefixed_twice first second None = refl
prefixed_twice first second (Some more) = ap Some (append_assoc first second more)

-- the first piece is this one
pub folded_more : (white : List ℕ) (g : Piece) (more : Option (List Piece))
    → option_map (folded white) (option_map (λ gs. g ∷ gs) more)
    ≡ prefixed (added white g) (option_map (folded (white_after white g)) more)
unfolding folded
folded_more white g None = refl
folded_more white g (Some more) = refl
