-- The outcomes of calls that expand cells.
use Rattle.std.specs.Prelude.{◌≡◌, ◌≢◌, ◌⊎◌, ◌<◌, ◌-◌, ℕ, List, ◌++◌, drop, length, nat_le, if◌then◌else◌, None, Result, Ok, Err}
use Rattle.std.specs.List.{Contains, concat}
use Rattle.subst_language.specs.Language.Answer.{Answer, Gives, Refuses}
use Rattle.subst_language.specs.Language.Several.{EachGives, RefusesAt}
use Rattle.subst_indexed.specs.Expansion.{Breaks}
use Rattle.subst_indexed.specs.Slot.{known_at}
use Rattle.subst_indexed.specs.Template.{template_expansion}
use Rattle.subst_indexed.specs.declared.cell.Cell.{Cell}
use Rattle.subst_indexed.specs.declared.walk.Stop.{Stop}
use Rattle.subst_indexed.specs.declared.walk.Stop.TheVariants.{Full, Missing, Asks, NotATemplate}
use Rattle.subst_c.specs.Buffer.{IsPut, IsTooLong}
use Rattle.subst_c.specs.Each.{ends_from}
use Rattle.subst_c.specs.Fault.{IsRecordOf, SetsFault}
use Rattle.subst_c.specs.Values.{given_values, value_known}
use Rattle.subst_c.specs.declared.fault.FaultRecord.{FaultRecord}
use Rattle.subst_c.specs.declared.outcome.TheConstants.{DONE, REFUSED, OUT_OF_MEMORY, ROOM_TOO_SMALL, NOT_A_TEMPLATE, ASKS}
use Rattle.subst_c.specs.declared.value.ValueRow.{ValueRow}

-- a call that expands into a buffer states an answer
pub record Expands (HasAnswer : Answer → Type 0) (s : List ℕ) (result needed : ℕ) (old new : List ℕ)
    (told_old told : FaultRecord) : Type 0 where
  -- if the result is `DONE`, the buffer begins with the output
  pub done : result ≡ DONE → IsPut (λ x. HasAnswer (Gives x)) needed old new
  -- if the result is `ROOM_TOO_SMALL`, the output is longer than the buffer
  pub too_small : result ≡ ROOM_TOO_SMALL → IsTooLong (λ x. HasAnswer (Gives x)) needed old
  -- if the result is `REFUSED`, the fault is the missing variable
  pub fault : SetsFault (IsRecordOf (λ f. HasAnswer (Refuses f))) s result told_old told

-- a result other than `DONE`, `REFUSED` and `ROOM_TOO_SMALL` of a call that expands cells
abbrev pub IsOtherExpanded : ℕ → Type 0
IsOtherExpanded result = result ≢ DONE → result ≢ REFUSED → result ≢ ROOM_TOO_SMALL
    → (result ≡ OUT_OF_MEMORY) ⊎ (result ≡ NOT_A_TEMPLATE) ⊎ (result ≡ ASKS)

-- the number of the result of an expansion that stopped
abbrev pub stop_number : Stop → ℕ
stop_number (Full failed) = OUT_OF_MEMORY
stop_number (Missing name) = REFUSED
stop_number (Asks number) = ASKS
stop_number NotATemplate = NOT_A_TEMPLATE

-- the fault that an expansion that stopped reports: that of a missing variable, or else the one before
abbrev pub stop_fault : Stop → FaultRecord → FaultRecord
stop_fault (Missing name) told = record { kind = 5; position = name.start; length = name.end - name.start }
stop_fault stop told = told

-- the number of the variable that an expansion that stopped asks for, or else the one before
abbrev pub stop_asked : Stop → ℕ → ℕ
stop_asked (Asks number) asked = number
stop_asked stop asked = asked

-- what a step reports, of whose bytes `written` are written and `room` fit: the number of its result, the
-- number of the variable that it asks for, and its fault
abbrev pub IsToldAs : Result (Unit {0}) Stop → (written room result : ℕ) → (asked_old asked : ℕ)
    → (told_old told : FaultRecord) → Type 0
IsToldAs (Ok done) written room result asked_old asked told_old told =
    (result ≡ (if nat_le written room then DONE else ROOM_TOO_SMALL)) × (asked ≡ asked_old) × (told ≡ told_old)
IsToldAs (Err stop) written room result asked_old asked told_old told =
    (result ≡ stop_number stop) × (asked ≡ stop_asked stop asked_old) × (told ≡ stop_fault stop told_old)

-- the concatenated outputs of rows of values are `bytes`, and `ends` has the position at which each output
-- ends; `HasAnswer` relates a row to its answers
pub record AreExpansions (HasAnswer : ValueRow → Answer → Type 0) (rows : List ValueRow) (bytes ends : List ℕ)
    : Type 0 where
  pub outputs : List (List ℕ)
  pub given : EachGives HasAnswer rows outputs
  pub joined : bytes ≡ concat outputs
  pub ended : ends ≡ ends_from 0 outputs

-- a call that expands with each row of values, one output after the other into a buffer, states the answers
pub record ExpandsEach (HasAnswer : ValueRow → Answer → Type 0) (s : List ℕ) (rows : List ValueRow)
    (result needed row : ℕ) (old new ends_old ends : List ℕ) (told_old told : FaultRecord) : Type 0 where
  -- if the result is `DONE`, the buffer begins with the outputs, and `ends` with the positions where they end
  pub done : result ≡ DONE → (outputs_end : List ℕ)
      × IsPut (λ x. AreExpansions HasAnswer rows x outputs_end) needed old new
      × (ends ≡ outputs_end ++ drop (length outputs_end) ends_old)
  -- if the result is `ROOM_TOO_SMALL`, the outputs are longer than the buffer, or `ends` has fewer elements
  -- than there are outputs
  pub too_small : result ≡ ROOM_TOO_SMALL → (x : List ℕ) × (outputs_end : List ℕ)
      × AreExpansions HasAnswer rows x outputs_end × (needed ≡ length x)
      × ((length old < needed) ⊎ (length ends_old < length outputs_end))
  -- if the result is `REFUSED`, `row` is the index of the first refused row, and the fault is its
  pub fault : SetsFault (IsRecordOf (RefusesAt HasAnswer rows row)) s result told_old told

-- with the values of some row, the cells are no template
abbrev pub IsBroken : List Cell → List ℕ → List ValueRow → Type 0
IsBroken cells s rows = (row : ValueRow) × Contains rows row
    × (template_expansion cells s (given_values row.values.now) ≡ Breaks)

-- some row has a value that hasn't been asked for
abbrev pub HasUnasked : List ValueRow → Type 0
HasUnasked rows = (row : ValueRow) × Contains rows row
    × ((number : ℕ) × (known_at value_known row.values.now number ≡ None))
