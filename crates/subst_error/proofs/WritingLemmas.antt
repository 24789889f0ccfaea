-- Texts written one after the other.
use Rattle.std.proofs.Common.{◌≡◌, ◌++◌, ℕ, List, codes, refl}
use Rattle.std.specs.Fmt.{HasWritten}
use Rattle.std.specs.declared.fmt.Formatter.{Formatter}
use Rattle.std.proofs.lemmas.Grind.{put_four}
use Rattle.subst_error.specs.Display.{IsDisplayOfFault, IsQuoted}
use Rattle.subst_error.specs.Fault.{UnexpectedCharacter}
use Rattle.subst_error.specs.Writing.{HasWrittenSome}
use Rattle.subst_error.specs.declared.CharOrByte.{CharOrByte}

-- an unexpected character is written in some quoted form, with the text around it
pub unexpected_written : {W : Type 0} (took : W → List ℕ → W → Type 0) (f g h i j : Formatter W)
    (position : ℕ) (c shown : CharOrByte) (expected said : List ℕ)
    → HasWritten took f (codes "Unexpected character: ") g → HasWrittenSome took g (IsQuoted shown) h
    → HasWritten took h (codes ", expected ") i → HasWritten took i said j → shown ≡ c → said ≡ expected
    → HasWrittenSome took f (IsDisplayOfFault (UnexpectedCharacter position c expected)) j
unexpected_written took f g h i j position c shown expected said one two three four same kept = record {
  text = codes "Unexpected character: " ++ (two.text ++ (codes ", expected " ++ said));
  holds = (two.text, rw (← same) two.holds, rw kept refl);
  wrote = put_four took f g h i j _ two.text _ said _ one two.wrote three four refl;
}
