-- Look-ups of variables.
use Rattle.std.specs.Prelude.{◌≡◌, ℕ, List, Option, Some}
use Rattle.std.specs.Str.{IsUtf8}

-- a function from a name to the bytes of its value, or to `None`; infinitely many names may have values
abbrev pub LookUp : Type 0
LookUp = List ℕ → Option (List ℕ)

-- each value of the look-up is UTF-8
abbrev pub GivesTexts : LookUp → Type 0
GivesTexts look = (name x : List ℕ) → look name ≡ Some x → IsUtf8 x
