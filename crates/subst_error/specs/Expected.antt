-- The message that names the expected characters.
use Rattle.std.specs.Prelude.{ℕ, List}
use Rattle.std.specs.Fmt.InlineText.{inline_text}
use Rattle.subst_error.specs.declared.ExpectedCharacter.{ExpectedCharacter}

-- The bytes of the message, at most 64. A longer text is cut after the characters that fit in 61 bytes, and
-- three dots follow.
abbrev pub expected_text : ExpectedCharacter → List ℕ
expected_text e = inline_text e.message
