-- The cells of a source.
use Rattle.std.specs.Prelude.{◌≡◌, ℕ, List, length, map, Option, None}
use Rattle.std.specs.List.{AllByRecursion}
use Rattle.subst_error.specs.ErrorFault.{parse_fault}
use Rattle.subst_error.specs.Fault.{Fault}
use Rattle.subst_language.specs.Language.Variables.{variables_of}
use Rattle.subst_language.specs.Parts.Meaning.{IsTemplateOf}
use Rattle.subst_language.specs.declared.part.Part.{Part}
use Rattle.subst_indexed.specs.Numbering.{AllKept, IsUseIn, first_uses, names_of}
use Rattle.subst_indexed.specs.Template.{template_cells, use_cell}
use Rattle.subst_indexed.specs.declared.cell.Cell.{Cell}
use Rattle.subst_indexed.specs.declared.parse.IndexError.{IndexError}
use Rattle.subst_indexed.specs.declared.parse.IndexError.TheVariants.{TooLong, Parse}

-- The cells are the template of the source s, and `names` are the names of its variables, by number: each
-- once, in the order of first use. The cells keep the parts of s, each variable with the number of its name,
-- and the first use of each name.
pub record IsCellsOf (s : List ℕ) (names : List (List ℕ)) (cells : List Cell) : Type 0 where
  pub parts : List Part
  pub template : IsTemplateOf s parts
  pub part_cells : List Cell
  pub kept : AllKept s names 0 parts part_cells
  pub named : names ≡ names_of (first_uses (variables_of 0 template.tree))
  pub in_source : AllByRecursion (IsUseIn s) (first_uses (variables_of 0 template.tree))
  pub spelled : cells
      ≡ template_cells (length s) part_cells (map use_cell (first_uses (variables_of 0 template.tree)))

-- the fault that an error states, or `None` if the source is too long or memory ran out
abbrev pub index_fault : IndexError → Option Fault
index_fault TooLong = None
index_fault (Parse e) = parse_fault e
