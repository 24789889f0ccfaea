-- The values that fit into each kind of string.
use Rattle.std.specs.Prelude.{ℕ, Bool, true, not, ◌&&◌, ◌==◌, if◌then◌else◌, List, length}
use Rattle.std.specs.List.{list_all}
use Rattle.toml_parser.specs.Lexical.{apostrophe, first, is_non_eol}

-- a string in single quotes may contain the byte
abbrev pub is_literal : ℕ → Bool
is_literal b = is_non_eol b && not (b == apostrophe)

-- The token's kind of string can spell the value. An empty value doesn't fit, since a line continuation (a
-- backslash at a line's end) before it would also leave out white space after it. In single quotes each byte
-- of the value has to be literal.
abbrev pub fits : List ℕ → List ℕ → Bool
fits token value =
    not (length value == 0) && (if first token == apostrophe then list_all is_literal value else true)
