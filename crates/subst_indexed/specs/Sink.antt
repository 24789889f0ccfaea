-- The cells that a sink has written for the parts that it took.
use Rattle.std.specs.Prelude.{◌≡◌, ℕ, List, [], ◌∷◌, ◌++◌, take, Some}
use Rattle.subst_language.specs.Language.Variables.{Variable}
use Rattle.subst_language.specs.Parts.Meaning.{part_variables, variables_in}
use Rattle.subst_language.specs.Parts.Span.{span_bytes}
use Rattle.subst_language.specs.declared.part.Part.{Part}
use Rattle.subst_language.specs.declared.part.Part.TheVariants as parts
use Rattle.subst_language.specs.declared.part.Span.{Span}
use Rattle.subst_indexed.specs.Cell.{decoded}
use Rattle.subst_indexed.specs.Names.{AllNamed, KeepsNumbers, name_bytes, uses_of}
use Rattle.subst_indexed.specs.Numbering.{AllKept, first_uses, number_of, with_variables}
use Rattle.subst_indexed.specs.declared.cell.Cell.{Cell}
use Rattle.subst_indexed.specs.declared.cell.NumberedPart.{NumberedPart}
use Rattle.subst_indexed.specs.declared.cell.NumberedPart.TheVariants.{Default}
use Rattle.subst_indexed.specs.declared.names.Name.{Name}
use Rattle.subst_indexed.specs.declared.cell_sink.CellSink.{CellSink}

-- The cells, after a head, keep the parts of the source s, with the numbers of the names. The source is that
-- of the sink's first state.
pub record HoldsKept (s : List ℕ) (all : List Cell) (names : List Name) (first : List ℕ) (parts : List Part)
    : Type 0 where
  pub source : s ≡ first
  pub head : Cell
  pub cells : List Cell
  pub splits : all ≡ head ∷ cells
  pub kept : AllKept s (name_bytes names) 0 parts cells
  pub named : AllNamed s names
  pub uses : uses_of names ≡ first_uses (variables_in parts s)

-- `HoldsKept` for the fields of a sink
abbrev pub SinkHolds : CellSink → List ℕ → List Part → Type 0
SinkHolds sink first parts = HoldsKept sink.source.now sink.cells.items sink.names.list.items first parts

-- A cell that keeps the part was appended to the cells. The names and the source are the same.
pub record PushesCell (part : NumberedPart) (old new : CellSink) : Type 0 where
  pub cell : Cell
  pub keeps : decoded cell ≡ Some part
  pub cells : new.cells.items ≡ old.cells.items ++ cell ∷ []
  pub names : new.names.list.items ≡ old.names.list.items
  pub source : new.source.now ≡ old.source.now

-- the cells, the names and the source are the same
pub record IsUnchanged (old new : CellSink) : Type 0 where
  pub cells : new.cells.items ≡ old.cells.items
  pub names : new.names.list.items ≡ old.names.list.items
  pub source : new.source.now ≡ old.source.now

-- The first `known` names are left. The cells and the source are the same.
pub record KeepsFirst (known : ℕ) (old new : CellSink) : Type 0 where
  pub cells : new.cells.items ≡ old.cells.items
  pub names : new.names.list.items ≡ take known old.names.list.items
  pub source : new.source.now ≡ old.source.now

-- The names of a sink changed from `old` to `mid`: those of the variables were added. All names keep their
-- numbers, and nothing else changed.
pub record AddsNames (variables : List Variable) (old mid : CellSink) : Type 0 where
  pub cells : mid.cells.items ≡ old.cells.items
  pub source : mid.source.now ≡ old.source.now
  pub keeps : KeepsNumbers (name_bytes old.names.list.items) (name_bytes mid.names.list.items)
  pub named : AllNamed old.source.now old.names.list.items → AllNamed old.source.now mid.names.list.items
  pub uses : uses_of mid.names.list.items ≡ with_variables (uses_of old.names.list.items) variables

-- a cell that keeps a default with this jump was appended, with the number that the name now has
pub record PushesDefault (name : Span) (jump : ℕ) (old new : CellSink) : Type 0 where
  pub mid : CellSink
  pub adds : AddsNames (part_variables (parts.Default name 0) old.source.now) old mid
  pub number : ℕ
  pub numbered : number_of (name_bytes mid.names.list.items) (span_bytes name old.source.now) ≡ Some number
  pub pushes : PushesCell (Default jump number) mid new
