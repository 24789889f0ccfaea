-- The records that report faults to C.
use Rattle.std.specs.Prelude.{◌≡◌, ◌≢◌, ◌≤◌, ℕ, ◌+◌, ◌-◌, List, Some, length}
use Rattle.subst_error.specs.Fault.{Fault, InvalidEscapeSequence, MissingVariableName, UnexpectedCharacter, MissingClosingBrace, NoSuchVariable}
use Rattle.subst_error.specs.Range.{range_of}
use Rattle.subst_c.specs.declared.fault.FaultRecord.{FaultRecord}
use Rattle.subst_c.specs.declared.outcome.TheConstants.{REFUSED}

-- the number of a fault's kind
abbrev pub fault_number : Fault → ℕ
fault_number (InvalidEscapeSequence position character) = 1
fault_number (MissingVariableName position len) = 2
fault_number (UnexpectedCharacter position character expected) = 3
fault_number (MissingClosingBrace position) = 4
fault_number (NoSuchVariable position name) = 5

-- the record of a fault: its kind, the position where it begins, and its length in bytes
abbrev pub record_of : Fault → FaultRecord
record_of f =
    let range = range_of (Some f) in
    record { kind = fault_number f; position = range.start; length = range.end - range.start }

-- the record is that of a fault with the property `IsSuch`
abbrev pub IsRecordOf : (Fault → Type 0) → FaultRecord → Type 0
IsRecordOf IsSuch reported = (f : Fault) × IsSuch f × (reported ≡ record_of f)

-- the span of the record lies in the source s
abbrev pub LiesIn : List ℕ → FaultRecord → Type 0
LiesIn s reported = reported.position + reported.length ≤ length s

-- the effect that a call with the result `result` has on the record of a fault
pub record SetsFault (IsSuch : FaultRecord → Type 0) (s : List ℕ) (result : ℕ) (old new : FaultRecord)
    : Type 0 where
  -- if the source is refused, the new record has the property `IsSuch`
  pub refused : result ≡ REFUSED → IsSuch new
  -- if the source is refused, the span of the new record lies in s
  pub within : result ≡ REFUSED → LiesIn s new
  -- unless the source is refused, the record is unchanged
  pub fault_kept : result ≢ REFUSED → new ≡ old
