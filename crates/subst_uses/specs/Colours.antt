-- The colours of a terminal, as a look-up with computed values.
use Rattle.std.specs.Prelude.{ℕ, Bool, List, [], ◌∷◌, Some, None, codes, if◌then◌else◌, bytes_eq}
use Rattle.std.specs.Option.{option_map}
use Rattle.subst.specs.Language.LookUp.{LookUp}

-- an escape sequence: the escape byte and a code
abbrev escape_sequence : List ℕ → List ℕ
escape_sequence code = 0x1B ∷ code

-- the escape sequence of a colour
abbrev pub code_of : LookUp
code_of name =
    if bytes_eq name (codes "red") then Some (escape_sequence (codes "[31m")) else
    if bytes_eq name (codes "bold") then Some (escape_sequence (codes "[1m")) else
    if bytes_eq name (codes "reset") then Some (escape_sequence (codes "[0m")) else
    None

-- an escape sequence, or nothing if the colours are off
abbrev pub coded : Bool → List ℕ → List ℕ
coded on code = if on then escape_sequence code else []

-- the look-up of the colours' escape sequences, which are empty if `on` is false
abbrev pub colours_of : Bool → LookUp
colours_of on name = option_map (λ code. if on then code else []) (code_of name)
