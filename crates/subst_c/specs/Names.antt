-- The variables of templates that C keeps as cells.
use Rattle.std.specs.Prelude.{◌≡◌, ◌⊎◌, ◌<◌, ◌-◌, ◌+◌, ℕ, ◌==◌, ◌&&◌, List, length, Option, Some, None, if◌then◌else◌, slice_get, slice_range}
use Rattle.std.specs.Option.{option_map}
use Rattle.subst_language.specs.Language.Bytes.{colon, opening_brace, question_mark}
use Rattle.subst_language.specs.Parts.Span.{IsSpan}
use Rattle.subst_language.specs.declared.part.Span.{Span}
use Rattle.subst_indexed.specs.Template.{cell_span, name_cells}
use Rattle.subst_indexed.specs.declared.cell.Cell.{Cell}
use Rattle.subst_c.specs.declared.outcome.TheConstants.{DONE, NOT_A_TEMPLATE}
use Rattle.subst_c.specs.declared.variables.VariableRecord.{VariableRecord}

-- the number of the kind of a placeholder, by the bytes before and after its name: `{name?` is optional, and
-- `{name:` has a default
abbrev pub kind_between : (before next : Option ℕ) → ℕ
kind_between (Some b) (Some n) =
    if b == opening_brace && n == question_mark then 1 else if b == opening_brace && n == colon then 2 else 0
kind_between before next = 0

-- the record of the use of a name in this span of the source s
abbrev pub use_record : List ℕ → Span → VariableRecord
use_record s name = record {
  kind = kind_between (slice_get s (name.start - 1)) (slice_get s name.end);
  position = name.start;
  length = name.end - name.start;
}

-- the span that cells have for the first use of the name with this number, if any
abbrev pub span_at : List Cell → (number : ℕ) → Option Span
span_at cells number = option_map cell_span (slice_get (name_cells cells) number)

-- a call for the first use of the name at a span, if any, has the result `result`: it is done if the span is
-- in the source s, and otherwise writes nothing
abbrev pub IsUseTold : List ℕ → Option Span → (result : ℕ) → (old new : VariableRecord) → Type 0
IsUseTold s (Some name) result old new =
    ((result ≡ DONE) × IsSpan s name × (new ≡ use_record s name))
    ⊎ ((result ≡ NOT_A_TEMPLATE) × (IsSpan s name → ⊥) × (new ≡ old))
IsUseTold s None result old new = (result ≡ NOT_A_TEMPLATE) × (new ≡ old)

-- a call for the name with this number of a parsed source is done if there is one; the record has its span
abbrev pub IsNameTold : List ℕ → (names : List (List ℕ)) → (number result : ℕ) → VariableRecord → Type 0
IsNameTold s names number result told =
    (number < length names → result ≡ DONE)
    × (result ≡ DONE
    → slice_get names number ≡ Some (slice_range s told.position (told.position + told.length)))
