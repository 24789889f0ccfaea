-- Templates that C keeps as cells: their parse, and their values.
use Rattle.std.specs.Prelude.{◌≡◌, ◌⊎◌, ℕ, ◌==◌, ◌<◌, ◌≤◌, ◌^◌, List, length, map, if◌then◌else◌}
use Rattle.subst_error.specs.Fault.{Fault}
use Rattle.subst_language.specs.Language.BadItem.{HasFault}
use Rattle.subst_language.specs.Language.Bytes.{question_mark}
use Rattle.subst_language.specs.Language.Sentence.{IsSentence}
use Rattle.subst_indexed.specs.Parsed.{IsCellsOf}
use Rattle.subst_indexed.specs.declared.cell.Cell.{Cell}
use Rattle.subst_c.specs.Fault.{IsRecordOf, record_of}
use Rattle.subst_c.specs.declared.cells.TheConstants.{NO_OPTIONAL}
use Rattle.subst_c.specs.declared.fault.FaultRecord.{FaultRecord}
use Rattle.subst_c.specs.declared.outcome.TheConstants.{REFUSED, OUT_OF_MEMORY, NO_SUCH_STYLE, TOO_LONG}

-- a slash in place of a question mark, and any other byte as it is
abbrev pub strict_byte : ℕ → ℕ
strict_byte b = if b == question_mark then 47 else b

-- the source s with a slash in place of each question mark, so that `${name?}` is no placeholder
abbrev pub without_optional : List ℕ → List ℕ
without_optional s = map strict_byte s

-- the flags are defined, and if `NO_OPTIONAL` is set, s is a sentence without `${name?}` too
abbrev pub IsAllowed : (flags : ℕ) → List ℕ → Type 0
IsAllowed flags s = (flags ≤ NO_OPTIONAL) × (flags ≡ NO_OPTIONAL → IsSentence (without_optional s))

-- the cells are those of the source s, whose placeholders the flags allow
abbrev pub AreCells : (flags : ℕ) → List ℕ → List Cell → Type 0
AreCells flags s cells = ((names : List (List ℕ)) × IsCellsOf s names cells) × IsAllowed flags s

-- the record of a fault under the flag `NO_OPTIONAL`: an unexpected character has a kind of its own
abbrev pub strict_record_of : Fault → FaultRecord
strict_record_of f =
    let told = record_of f in
    record { kind = if told.kind == 3 then 8 else told.kind; position = told.position; length = told.length }

-- the record is that of the fault of s; if `NO_OPTIONAL` is set, it is that of s without `${name?}`, if s has
-- a fault then
abbrev pub IsParseFault : (flags : ℕ) → List ℕ → FaultRecord → Type 0
IsParseFault flags s told =
    (IsRecordOf (HasFault 0 s) told × IsAllowed flags s)
    ⊎ ((flags ≡ NO_OPTIONAL)
    × ((f : Fault) × HasFault 0 (without_optional s) f × (told ≡ strict_record_of f)))

-- the number of a result of a parse that gives no cells: the source is refused, the flags aren't defined, the
-- source is too long, or memory ran out
abbrev pub IsUnparsed : (flags : ℕ) → List ℕ → (number : ℕ) → Type 0
IsUnparsed flags s number =
    (number ≡ REFUSED)
    ⊎ ((number ≡ NO_SUCH_STYLE) × (NO_OPTIONAL < flags))
    ⊎ ((number ≡ TOO_LONG) × (2 ^ 32 ≤ length s))
    ⊎ (number ≡ OUT_OF_MEMORY)
