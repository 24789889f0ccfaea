-- The arguments of a command line: pairs NAME=VALUE, names after a dollar, and files.
use Rattle.std.specs.Prelude.{◌==◌, ◌&&◌, ◌-◌, ℕ, List, [], ◌∷◌, codes, drop, length, take, Option, Some, None, String, string_bytes, unwrap_or, if◌then◌else◌}
use Rattle.std.specs.Borrow.{Bor}
use Rattle.std.specs.Global.{Global}
use Rattle.std.specs.Option.{option_map_or}
use Rattle.std.specs.Str.{bytes_eq}
use Rattle.subst_filter_lib.specs.Arguments.{is_pair, name_in, value_in}
use Rattle.subst_expander.specs.Layers.{is_spelled}

-- the name and the value of NAME=VALUE, split at its first `=`, if the name is a variable name
abbrev pub pair_in : List ℕ → Option (List ℕ × List ℕ)
pair_in argument =
    if is_pair argument && is_spelled (name_in argument) then Some (name_in argument, value_in argument)
    else None

-- the text after this byte, if it begins with this byte
abbrev pub after_byte : ℕ → List ℕ → Option (List ℕ)
after_byte byte [] = None
after_byte byte (b ∷ text) = if b == byte then Some text else None

-- the text before this byte, if it ends in this byte
abbrev pub before_byte : ℕ → List ℕ → Option (List ℕ)
before_byte byte text =
    if bytes_eq (drop (length text - 1) text) (byte ∷ []) then Some (take (length text - 1) text) else None

-- the name in `$NAME` or `${NAME}`, or any other text unchanged: 36 is `$`, 123 is `{`, 125 is `}`
abbrev pub without_dollar : List ℕ → List ℕ
without_dollar text =
    option_map_or (λ name. option_map_or (λ opened. unwrap_or (before_byte 125 opened) text)
    (after_byte 123 name) name) (after_byte 36 text) text

-- the name and the value of a pair, as `pair_in` has them
abbrev pub text_pair : String Global × String Global → Option (List ℕ × List ℕ)
text_pair pair = Some (string_bytes pair.0, string_bytes pair.1)

-- the name and the value of a pair of borrowed texts
abbrev pub borrowed_pair : Bor (List ℕ) × Bor (List ℕ) → Option (List ℕ × List ℕ)
borrowed_pair pair = Some (pair.0.now, pair.1.now)

-- the files, or standard input if there are none
abbrev pub files_or_input : List (List ℕ) → List (List ℕ)
files_or_input [] = codes "-" ∷ []
files_or_input (file ∷ files) = file ∷ files
