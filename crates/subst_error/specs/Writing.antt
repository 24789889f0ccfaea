-- Writing a text to a formatter, when only a property of the text is known.
use Rattle.std.specs.Prelude.{ℕ, List, Result, IsOk}
use Rattle.std.specs.Fmt.{IsPlainFormatter, HasWritten}
use Rattle.std.specs.declared.fmt.Formatter.{Formatter}
use Rattle.std.specs.declared.fmt.Error.{Error}

-- The formatter g is f after f has written some text of which P holds. `took` relates a writer, the bytes
-- that it takes, and the writer afterwards.
pub record HasWrittenSome {W : Type 0} (took : W → List ℕ → W → Type 0) (f : Formatter W)
    (P : List ℕ → Type 0) (g : Formatter W) : Type 0 where
  pub text : List ℕ
  pub holds : P text
  pub wrote : HasWritten took f text g

-- if f is a plain formatter and r is `Ok`, then g is f after f has written some text of which P holds
abbrev pub WritesSome : {W : Type 0} → (W → List ℕ → W → Type 0) → Formatter W → Result (Unit {0}) Error
    → (List ℕ → Type 0) → Formatter W → Type 0
WritesSome took f r P g = IsPlainFormatter f → IsOk r → HasWrittenSome took f P g
