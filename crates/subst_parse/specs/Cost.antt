-- The number of reads that the parser's steps make.
use Rattle.std.specs.Prelude.{◌≡◌, ℕ, ◌+◌, ◌-◌, ◌*◌, ◌≤◌, length, drop, min, Result, Ok, Err}
use Rattle.subst_language.specs.Language.Name.{BeginsWithNo}
use Rattle.subst_parse.specs.ByteRun.{IsRun}
use Rattle.subst_parse.specs.declared.halt.Halt.{Halt}
use Rattle.subst_parse.specs.declared.item.Placeholder.{Placeholder}
use Rattle.subst_parse.specs.declared.item.Placeholder.TheVariants.{Short, Braced, Optional, Default}
use Rattle.subst_parse.specs.declared.parse.Parser.{Parser}
use Rattle.subst_parse.specs.declared.tape.Tape.{Tape}

-- a count grows from old to new, by at least low and at most high
abbrev pub GrowsBetween : (low high old new : ℕ) → Type 0
GrowsBetween low high old new = (old + low ≤ new) × (new ≤ old + high)

-- Each byte in from..to has the property P, and the byte at `to` doesn't, unless the source ends there.
-- Between the tape's states `before` and `after`, the bytes in from..to were read, and so was the byte at
-- `to`, if there is one.
pub record FindsEnd (P : ℕ → Type 0) (before : Tape) (from to : ℕ) (after : Tape) : Type 0 where
  pub run : IsRun P before.source.now from to
  pub end : BeginsWithNo P (drop to before.source.now)
  pub within : to ≤ length before.source.now
  pub same : after.source ≡ before.source
  pub cost : after.reads + from ≡ before.reads + min (to + 1) (length before.source.now)

-- the end of a placeholder's name, or of its question mark if it has one
abbrev pub end_of_name : Placeholder → ℕ
end_of_name (Short name) = name.end
end_of_name (Braced name) = name.end
end_of_name (Optional name) = name.end + 1
end_of_name (Default name) = name.end

-- A step of the parser that advances n bytes makes at least n and at most 3 * n reads. If a step begins with
-- n bytes left and ends in an error, it makes from one to 2 * n + 8 reads.
abbrev pub StepReads : {S : Type 0} → Parser S → Result (Unit {0}) Halt → Parser S → Type 0
StepReads before (Ok _) after =
    GrowsBetween (after.at - before.at) (3 * (after.at - before.at)) before.tape.reads after.tape.reads
StepReads before (Err e) after =
    GrowsBetween 1 (2 * (length before.tape.source.now - before.at) + 8) before.tape.reads after.tape.reads

-- `StepReads` for the rest of a step, when the rest's first byte has been read already. If the rest advances
-- n bytes, it makes at least n - 1 and at most 2 * n - 1 reads. If the rest begins with n bytes left and ends
-- in an error, it makes at most 2 * n + 6 reads.
abbrev pub StepReadsAfterFirst : {S : Type 0} → Parser S → Result (Unit {0}) Halt → Parser S → Type 0
StepReadsAfterFirst before (Ok _) after =
    GrowsBetween (after.at - before.at - 1) (2 * (after.at - before.at) - 1)
    before.tape.reads after.tape.reads
StepReadsAfterFirst before (Err e) after =
    GrowsBetween 0 (2 * (length before.tape.source.now - before.at) + 6) before.tape.reads after.tape.reads
