-- The faults of a source or of its expansion, as errors state them. A fault's texts are lists of bytes.
use Rattle.std.specs.Prelude.{ℕ, List, Option}
use Rattle.subst_error.specs.declared.CharOrByte.{CharOrByte}

-- A fault of a source or of its expansion. Positions are byte offsets in the whole source, from 0.
pub data Fault : Type 0 where
  InvalidEscapeSequence : (position : ℕ) → (character : Option CharOrByte) → Fault
  MissingVariableName : (position len : ℕ) → Fault
  UnexpectedCharacter : (position : ℕ) → (character : CharOrByte) → (expected : List ℕ) → Fault
  MissingClosingBrace : (position : ℕ) → Fault
  NoSuchVariable : (position : ℕ) → (name : List ℕ) → Fault
