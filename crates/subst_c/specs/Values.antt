-- Values by number, as C passes them, and the outputs and faults of cells that are expanded with them.
use Rattle.std.specs.Prelude.{◌≡◌, ℕ, ◌==◌, List, Option, Some, None, if◌then◌else◌}
use Rattle.subst_error.specs.Fault.{NoSuchVariable}
use Rattle.subst_language.specs.Language.Answer.{Answer, Answers, Gives, Refuses}
use Rattle.subst_language.specs.Language.Value.{Bytes, Missing}
use Rattle.subst_indexed.specs.Expansion.{Values}
use Rattle.subst_indexed.specs.Laws.{expansion_value}
use Rattle.subst_indexed.specs.Numbering.{look_of}
use Rattle.subst_indexed.specs.Slot.{known_at}
use Rattle.subst_indexed.specs.Template.{template_expansion}
use Rattle.subst_indexed.specs.declared.cell.Cell.{Cell}
use Rattle.subst_c.specs.declared.value.Value.{Value}
use Rattle.subst_c.specs.declared.value.ValueRow.{ValueRow}

-- the value that C passes, as far as it is known: 1 stands for one that is set, 2 for one that hasn't been
-- asked for, and any other number for none
abbrev pub value_known : Value → Option (Option (List ℕ))
value_known v = if v.given == 1 then Some (Some v.bytes.now) else if v.given == 2 then None else Some None

-- a value as far as it is known, or none
abbrev pub or_none : Option (Option (List ℕ)) → Option (List ℕ)
or_none (Some value) = value
or_none None = None

-- the values that are given by number; one that hasn't been asked for counts as none
abbrev pub given_values : List Value → Values
given_values values number = or_none (known_at value_known values number)

-- the answers of cells over a source s with values: whatever the cells are
abbrev pub CellsAnswer : List Cell → List ℕ → Values → Answer → Type 0
CellsAnswer cells s values (Gives x) = expansion_value s (template_expansion cells s values) ≡ Some (Bytes x)
CellsAnswer cells s values (Refuses f) =
    (position : ℕ) × (name : List ℕ) × (f ≡ NoSuchVariable position name)
    × (expansion_value s (template_expansion cells s values) ≡ Some (Missing position name))

-- the answers of a source s with values by the numbers of its names
abbrev pub AnswersByNumber : List ℕ → (names : List (List ℕ)) → Values → Answer → Type 0
AnswersByNumber s names values = Answers s (look_of names values)

-- the answers of cells with a row of values
abbrev pub under_values : List Cell → List ℕ → ValueRow → Answer → Type 0
under_values cells s row = CellsAnswer cells s (given_values row.values.now)

-- the answers of a source s with a row of values by the numbers of its names
abbrev pub under_numbers : List ℕ → (names : List (List ℕ)) → ValueRow → Answer → Type 0
under_numbers s names row = AnswersByNumber s names (given_values row.values.now)
