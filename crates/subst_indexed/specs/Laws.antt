-- Terms in which the laws of expansions are stated.
use Rattle.std.specs.Prelude.{◌≡◌, ℕ, List, [], ◌∷◌, ◌++◌, Option, Some, None}
use Rattle.std.specs.List.{Contains}
use Rattle.subst_language.specs.Language.Value.{Value, Bytes, Missing}
use Rattle.subst_language.specs.Parts.Span.{IsSpan, span_bytes}
use Rattle.subst_language.specs.declared.part.Span.{Span}
use Rattle.subst_indexed.specs.Cell.{decoded}
use Rattle.subst_indexed.specs.Expansion.{Expansion, Gives, Lacks, Breaks, Values}
use Rattle.subst_indexed.specs.declared.cell.Cell.{Cell}
use Rattle.subst_indexed.specs.declared.cell.NumberedPart.TheVariants.{Escaped}

-- the value of the source s that an expansion states; `None` if the cells are no template
abbrev pub expansion_value : List ℕ → Expansion → Option Value
expansion_value s (Gives x) = Some (Bytes x)
expansion_value s (Lacks name) = Some (Missing name.start (span_bytes name s))
expansion_value s Breaks = None

-- the bytes consist of spans of the source s, of values, and of the single bytes of cells
pub data IsMadeOf (s : List ℕ) (values : Values) (cells : List Cell) : List ℕ → Type 0 where
  nothing : IsMadeOf s values cells []
  span : {x : List ℕ} (span : Span) → IsSpan s span → IsMadeOf s values cells x
      → IsMadeOf s values cells (span_bytes span s ++ x)
  value : {x : List ℕ} (number : ℕ) (v : List ℕ) → values number ≡ Some v → IsMadeOf s values cells x
      → IsMadeOf s values cells (v ++ x)
  byte : {x : List ℕ} (cell : Cell) (b : ℕ) → Contains cells cell → decoded cell ≡ Some (Escaped b)
      → IsMadeOf s values cells x → IsMadeOf s values cells (b ∷ x)

-- an expansion of any cells: bytes made of the source, values and bytes of cells; a missing variable, whose
-- name lies in the source; or nothing
abbrev pub IsHarmless : List ℕ → Values → List Cell → Expansion → Type 0
IsHarmless s values cells (Gives x) = IsMadeOf s values cells x
IsHarmless s values cells (Lacks name) = IsSpan s name
IsHarmless s values cells Breaks = Unit {0}
