-- The records that report variables to C.
use Rattle.std.specs.Prelude.{◌≡◌, ◌≤◌, ◌+◌, ℕ, List, length, map}
use Rattle.std.specs.List.{All}
use Rattle.subst_language.specs.Language.Sentence.{Spells}
use Rattle.subst_language.specs.Language.Tree.{Tree}
use Rattle.subst_language.specs.Language.Variables.{Kind, Required, OrNothing, OrDefault, Variable}
use Rattle.subst_c.specs.declared.variables.VariableRecord.{VariableRecord}

-- the number of a kind of variable
abbrev pub kind_number : Kind → ℕ
kind_number Required = 0
kind_number OrNothing = 1
kind_number OrDefault = 2

-- the record of a variable: the number of its kind, and the position and the length in bytes of its name
abbrev pub variable_record : Variable → VariableRecord
variable_record variable = record {
  kind = kind_number variable.kind;
  position = variable.position;
  length = length variable.name;
}

-- s is a sentence, and `records` has a record for each variable that `variables_of` lists for the tree of s
pub record HasRecords (s : List ℕ) (variables_of : Tree → List Variable) (records : List VariableRecord)
    : Type 0 where
  pub tree : Tree
  pub spelled : Spells tree s
  pub are : records ≡ map variable_record (variables_of tree)
  -- each name lies in s
  pub within : All (λ r. r.position + r.length ≤ length s) records
