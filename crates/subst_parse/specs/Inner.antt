-- Bytes that are plain inside a default and aren't braces.
use Rattle.std.specs.Prelude.{ℕ, ◌==◌, Bool, not, ◌||◌, IsTrue}
use Rattle.subst_language.specs.Language.Bytes.{dollar, backslash, opening_brace, closing_brace}

-- the byte is none of \ $ { }
abbrev pub is_inner : ℕ → Bool
is_inner b = not (b == dollar || b == backslash || b == opening_brace || b == closing_brace)

abbrev pub IsInner : ℕ → Type 0
IsInner b = IsTrue (is_inner b)
