-- The character at the front of a text.
use Rattle.std.specs.Prelude.{◌≡◌, ℕ, List, ◌∷◌, ◌++◌, encode_utf8}
use Rattle.std.specs.Char.{IsScalar}
use Rattle.subst_error.specs.declared.CharOrByte.{CharOrByte}
use Rattle.subst_error.specs.declared.CharOrByte.TheVariants.{Char, Byte}

-- the bytes begin with the UTF-8 encoding of the character c
abbrev pub BeginsWithChar : List ℕ → ℕ → Type 0
BeginsWithChar bytes c = IsScalar c × ((rest : List ℕ) × (bytes ≡ encode_utf8 c ++ rest))

-- the character that the bytes begin with, or their first byte if they begin with no character
abbrev pub IsFrontCharacter : List ℕ → CharOrByte → Type 0
IsFrontCharacter bytes (Char c) = BeginsWithChar bytes c
IsFrontCharacter bytes (Byte b) =
    ((c : ℕ) → ¬ (BeginsWithChar bytes c)) × ((rest : List ℕ) × (bytes ≡ b ∷ rest))
