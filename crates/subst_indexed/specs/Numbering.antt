-- The numbers of variables: each distinct name of a template has one, in the order of first use.
use Rattle.std.specs.Prelude.{◌≡◌, ℕ, ◌+◌, ◌-◌, List, [], ◌∷◌, ◌++◌, fold, length, map, Option, Some, None, is_some, if◌then◌else◌}
use Rattle.std.specs.Option.{option_and_then, option_map}
use Rattle.std.specs.Str.{bytes_eq}
use Rattle.subst_language.specs.Language.LookUp.{LookUp}
use Rattle.subst_language.specs.Language.Tree.{Tree}
use Rattle.subst_language.specs.Language.Variables as variables
use Rattle.subst_language.specs.Parts.Span.{IsSpan, span_bytes}
use Rattle.subst_language.specs.declared.part.Part.{Part}
use Rattle.subst_language.specs.declared.part.Part.TheVariants.{Literal, Escaped, Variable, Default}
use Rattle.subst_indexed.specs.Cell.{decoded}
use Rattle.subst_indexed.specs.Expansion.{Values, span_of}
use Rattle.subst_indexed.specs.declared.cell.Cell.{Cell}
use Rattle.subst_indexed.specs.declared.cell.NumberedPart.{NumberedPart}
use Rattle.subst_indexed.specs.declared.cell.NumberedPart.TheVariants as numbered

-- the index of the first of the names that is equal to `name`, or `None`
abbrev pub number_of : List (List ℕ) → List ℕ → Option ℕ
number_of [] name = None
number_of (first ∷ rest) name =
    if bytes_eq first name then Some 0 else option_map (λ n. n + 1) (number_of rest name)

-- the look-up of values by name: the value with the number of the name
abbrev pub look_of : List (List ℕ) → Values → LookUp
look_of names values name = option_and_then values (number_of names name)

-- the first use of a name: its position in the source, and the name
pub record FirstUse : Type 0 where
  pub position : ℕ
  pub name : List ℕ

-- the name of the use is in the source s, at its position
abbrev pub IsUseIn : List ℕ → FirstUse → Type 0
IsUseIn s it = let span = span_of it.position (it.position + length it.name) in
    IsSpan s span × (span_bytes span s ≡ it.name)

-- the names of first uses
abbrev pub names_of : List FirstUse → List (List ℕ)
names_of uses = map (λ it. it.name) uses

-- the uses, and this one after them if its name is a new one
abbrev pub with_use : List FirstUse → FirstUse → List FirstUse
with_use uses it = if is_some (number_of (names_of uses) it.name) then uses else uses ++ it ∷ []

-- the uses, with those of more variables
abbrev pub with_variables : List FirstUse → List variables.Variable → List FirstUse
with_variables uses more =
    fold (λ known variable. with_use known (record { position = variable.position; name = variable.name })) uses
    more

-- the first uses of the names of variables, in the order of the variables
abbrev pub first_uses : List variables.Variable → List FirstUse
first_uses all = with_variables [] all

-- the look-up of values by the numbers of a tree's names
abbrev pub look_by_number : Tree → Values → LookUp
look_by_number t values = look_of (names_of (first_uses (variables.variables_of 0 t))) values

-- The part of the source s with the index `at` is kept as `kept`: with the same spans, a variable with the
-- number of its name, and a default with the number of parts that it jumps over.
abbrev pub IsKept : List ℕ → List (List ℕ) → (at : ℕ) → Part → (kept : Option NumberedPart) → Type 0
IsKept s names at (Literal span) (Some (numbered.Literal start end)) =
    (start ≡ span.start) × (end ≡ span.end)
IsKept s names at (Escaped b) (Some (numbered.Escaped c)) = c ≡ b
IsKept s names at (Variable name) (Some (numbered.Variable start end number)) =
    (start ≡ name.start) × (end ≡ name.end) × (number_of names (span_bytes name s) ≡ Some number)
IsKept s names at (Default name next) (Some (numbered.Default jump number)) =
    (jump ≡ next - (at + 1)) × (number_of names (span_bytes name s) ≡ Some number)
IsKept s names at part kept = ⊥

-- the cells keep the parts, the first of which has the index `at`
abbrev pub AllKept : List ℕ → List (List ℕ) → (at : ℕ) → List Part → List Cell → Type 0
AllKept s names at [] [] = Unit {0}
AllKept s names at (part ∷ parts) (cell ∷ cells) =
    IsKept s names at part (decoded cell) × AllKept s names (at + 1) parts cells
AllKept s names at parts cells = ⊥
