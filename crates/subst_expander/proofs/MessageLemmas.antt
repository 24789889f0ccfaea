-- Printable texts.
use Rattle.std.proofs.Common.{◌≡◌, ℕ, ◌<◌, zero, suc, true, List, [], ◌∷◌, get_or, arith}
use Rattle.std.proofs.lemmas.Bool.{and_parts}
use Rattle.std.proofs.lemmas.Bool.Decides.{nat_tests}
use Rattle.std.proofs.lemmas.Str.{IsUtf8-from_ascii}
use Rattle.std.specs.Int.{is_in_range}
use Rattle.std.specs.Str.{IsUtf8}
use Rattle.subst_expander.specs.Messages.{are_printable}

printable-ascii : (text : List ℕ) → are_printable text ≡ true → (i : ℕ) → get_or text i 0 < 128
printable-ascii [] plain i = omega arith
printable-ascii (b ∷ text) plain zero =
    let first = (and_parts (is_in_range 32 126 b) (are_printable text) plain).0 in grind (arith, nat_tests)
printable-ascii (b ∷ text) plain (suc i) =
    printable-ascii text (and_parts (is_in_range 32 126 b) (are_printable text) plain).1 i

-- a printable text is UTF-8
pub printable-utf8 : (text : List ℕ) → are_printable text ≡ true → IsUtf8 text
printable-utf8 text plain = IsUtf8-from_ascii text (printable-ascii text plain)
