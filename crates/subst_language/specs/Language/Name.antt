-- Names of variables.
use Rattle.std.specs.Prelude.{ℕ, Bool, ◌||◌, ◌==◌, List, [], ◌∷◌, IsTrue}
use Rattle.std.specs.Char.{is_ascii_alphanumeric}
use Rattle.std.specs.List.{AllByRecursion}

-- `_`
abbrev pub underscore : ℕ
underscore = 95

-- an ASCII letter, an ASCII digit or an underscore
abbrev pub is_name_byte : ℕ → Bool
is_name_byte b = is_ascii_alphanumeric b || b == underscore

abbrev pub IsNameByte : ℕ → Type 0
IsNameByte b = IsTrue (is_name_byte b)

-- one or more name bytes
abbrev pub IsName : List ℕ → Type 0
IsName [] = ⊥
IsName (b ∷ bytes) = IsNameByte b × AllByRecursion IsNameByte bytes

-- the text is empty, or P doesn't hold of its first byte
abbrev pub BeginsWithNo : (ℕ → Type 0) → List ℕ → Type 0
BeginsWithNo P [] = Unit {0}
BeginsWithNo P (b ∷ x) = ¬ (P b)
