-- The faults of values files. A refused file has one fault: it isn't UTF-8, or else its first wrong line.
use Rattle.std.specs.Prelude.{◌≡◌, ◌≢◌, ◌⊎◌, ◌-◌, ℕ, List, [], ◌∷◌, IsSome, IsUtf8, length, string_bytes}
use Rattle.std.specs.List.{after_first, before_first}
use Rattle.subst_expander.specs.Faults.{IsNoText}
use Rattle.subst_expander.specs.Mark.{after_mark}
use Rattle.subst_expander.specs.ValuesFile.{Wrong, after_blanks, is_line_feed, message_of, parsed, value_bytes, values_in}
use Rattle.subst_expander.specs.declared.fault.Cause.{Cause}
use Rattle.subst_expander.specs.declared.fault.Cause.TheVariants.{NoVariable}
use Rattle.subst_expander.specs.declared.fault.Fault.{Fault}
use Rattle.subst_expander.specs.declared.source.Refused.{Refused}
use Rattle.subst_expander.specs.declared.values_file.ValuesSource.{ValuesSource}
use Rattle.subst_expander.specs.declared.values_file.ValuesSource.TheVariants.{Lines, Value}

-- the list has one fault, without a path, for which `Is` holds
abbrev pub HasOne : (Fault → Type 0) → List Fault → Type 0
HasOne Is faults = (it : Fault) × (faults ≡ it ∷ []) × (string_bytes it.path ≡ []) × Is it

-- the fault has an empty range at this offset
abbrev pub IsAt : ℕ → Fault → Type 0
IsAt start it = it.range ≡ record { start = start; end = start }

-- the cause is a wrong line, with this message
abbrev pub IsWrongFor : List ℕ → Cause → Type 0
IsWrongFor message (NoVariable why) = why.now ≡ message
IsWrongFor message _ = ⊥

-- `rest` is the end of the text `s` from the first wrong line of `s` on; all lines before that line are right
pub data StopsAt : (s rest : List ℕ) → Type 0 where
  wrong_first : {s : List ℕ} → parsed (before_first is_line_feed s) ≡ Wrong → StopsAt s s
  right_first : {s rest : List ℕ} → parsed (before_first is_line_feed s) ≢ Wrong
      → StopsAt (after_first is_line_feed s) rest → StopsAt s rest

-- `it` reports the first wrong line of a file with the bytes `s`, at the offset where the line's leading
-- blanks end
abbrev pub IsFirstWrong : (s : List ℕ) → Fault → Type 0
IsFirstWrong s it = (rest : List ℕ) × StopsAt (after_mark s) rest
    × IsWrongFor (message_of (before_first is_line_feed rest)) it.cause
    × IsAt (length s - length (after_blanks rest)) it

-- `it` is the fault of a file of lines with the bytes `s`
abbrev pub IsFaultOfLines : (s : List ℕ) → Fault → Type 0
IsFaultOfLines s it = IsNoText s it ⊎ (IsUtf8 s × IsFirstWrong s it)

-- `it` reports the file, with its one fault
abbrev pub IsRefusedFile : ValuesSource → Refused → Type 0
IsRefusedFile (Lines source) it =
    (it.source ≡ source) × HasOne (IsFaultOfLines source.bytes.items) it.faults.items
IsRefusedFile (Value name line_end source) it =
    (it.source ≡ source) × HasOne (IsNoText (value_bytes line_end source.bytes.items)) it.faults.items

-- `refused` reports, in order, those of the files that have no entries
abbrev pub AreRefused : List ValuesSource → (refused : List Refused) → Type 0
AreRefused [] refused = refused ≡ []
AreRefused (file ∷ files) refused =
    (IsSome (values_in file) × AreRefused files refused)
    ⊎ ((it : Refused) × (later : List Refused) × (refused ≡ it ∷ later) × IsRefusedFile file it
    × AreRefused files later)
