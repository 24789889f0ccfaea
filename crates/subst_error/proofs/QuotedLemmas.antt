-- The library's `{:?}` of a character, by the definitions here.
use Rattle.std.proofs.Common.{◌≡◌, ℕ, true, Some, arith, refl}
use Rattle.std.proofs.lemmas.Bool.Decides.{nat_tests}
use Rattle.std.specs.Char.{is_ascii}
use Rattle.std.specs.Fmt.{debug_char, debug_escape}
use Rattle.subst_error.specs.Display.{ascii_escape, in_quotes}

-- the library's escape of a character is `ascii_escape`
escape_is_debug : (c : ℕ) → debug_escape 39 c ≡ ascii_escape c
unfolding debug_escape
escape_is_debug c = grind (arith, nat_tests)

-- `{:?}` of an ASCII character is its quoted form
pub debug_is_quoted : (c : ℕ) → is_ascii c ≡ true → debug_char c ≡ Some (in_quotes (ascii_escape c))
debug_is_quoted c ascii = rw (ascii, escape_is_debug c) refl
