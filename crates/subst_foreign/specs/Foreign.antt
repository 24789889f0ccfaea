-- Definitions for texts of other tools: the value of a text, and the names that are chosen.
use Rattle.std.specs.Prelude.{◌≡◌, ◌++◌, ℕ, Bool, true, false, zero, suc, List, Option, Some, None, Result, Ok, Err, IsTrue, is_some}
use Rattle.std.specs.Borrow.{Bor}
use Rattle.std.specs.List.{Any}
use Rattle.std.specs.Char.{is_ascii_digit}
use Rattle.subst_language.specs.Language.Name.{BeginsWithNo}
use Rattle.subst_language.specs.Language.Value.{Value, Bytes, Missing}

-- the value of a text: `Ok` with the value's bytes, or `Err` with the name of a missing variable
abbrev pub Given : Type 0
Given = Result (List ℕ) (List ℕ)

-- two values, concatenated: the bytes of both, or the first missing name from the left
abbrev pub and_then : Given → Given → Given
and_then (Err name) v = Err name
and_then (Ok x) (Err name) = Err name
and_then (Ok x) (Ok y) = Ok (x ++ y)

-- the value that a look-up found, or else the missing name
abbrev pub found : Option (List ℕ) → List ℕ → Given
found (Some x) name = Ok x
found None name = Err name

-- the value of a template, without the position of the missing name
abbrev pub unplaced : Value → Given
unplaced (Bytes x) = Ok x
unplaced (Missing position name) = Err name

-- the name doesn't begin with a digit, as a shell requires
abbrev pub IsShellName : List ℕ → Type 0
IsShellName = BeginsWithNo (λ b. IsTrue (is_ascii_digit b))

-- the name is in the list
abbrev pub IsListed : List (Bor (List ℕ)) → List ℕ → Type 0
IsListed names name = Any (λ listed. listed.now ≡ name) names

-- the look-up has a value for the name
abbrev pub HasValue : {X : Type 0} → (List ℕ → Option X) → List ℕ → Type 0
HasValue look_up name = IsTrue (is_some (look_up name))

-- the look-up has a value for the name, or an operator follows the name
abbrev pub IsKnown : {X : Type 0} → (List ℕ → Option X) → (operated : Bool) → List ℕ → Type 0
IsKnown look_up true name = Unit {0}
IsKnown look_up false name = HasValue look_up name

-- whether a default is open at this depth
abbrev pub is_inside : ℕ → Bool
is_inside zero = false
is_inside (suc depth) = true
