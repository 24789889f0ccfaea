-- The cells of a parsed source.
use Rattle.std.proofs.Common.{◌≡◌, ℕ, List, [], ◌∷◌, drop, length, map, sym, ap, ◌∙◌, subst}
use Rattle.std.specs.List.{AllByRecursion}
use Rattle.subst_language.specs.Language.Variables.{variables_of}
use Rattle.subst_language.specs.Parts.Meaning.{IsTemplateOf, variables_in}
use Rattle.subst_language.specs.declared.part.Part.{Part}
use Rattle.subst_indexed.proofs.NumberingLemmas.{names_of-uses}
use Rattle.subst_indexed.specs.Names.{AllNamed, name_bytes, uses_of}
use Rattle.subst_indexed.specs.Numbering.{AllKept, IsUseIn, first_uses, names_of}
use Rattle.subst_indexed.specs.Parsed.{IsCellsOf}
use Rattle.subst_indexed.specs.Sink.{HoldsKept}
use Rattle.subst_indexed.specs.Template.{template_cells, use_cell}
use Rattle.subst_indexed.specs.declared.cell.Cell.{Cell}
use Rattle.subst_indexed.specs.declared.names.Name.{Name}

-- names in a source are first uses in it
uses_in : (s : List ℕ) (names : List Name) → AllNamed s names → AllByRecursion (IsUseIn s) (uses_of names)
uses_in s [] named = tt
uses_in s (name ∷ names) named = (named.0, uses_in s names named.1)

module _ (now s : List ℕ) (all : List Cell) (names : List Name) (parts : List Part)
    (held : HoldsKept now all names s parts) (template : IsTemplateOf s parts) where
  -- the first uses of the names that a sink holds are those of the source's tree
  uses : uses_of names ≡ first_uses (variables_of 0 template.tree)
  uses =
      held.uses ∙ ap (λ it. first_uses (variables_in parts it)) held.source
      ∙ ap first_uses template.mean.same_variables

  -- the cells that are completed are those of the source
  pub completed : (cells : List Cell)
      → cells ≡ template_cells (length now) (drop 1 all) (map use_cell (uses_of names))
      → IsCellsOf s (name_bytes names) cells
  completed cells is = record {
    parts = parts;
    template = template;
    part_cells = held.cells;
    kept = subst (λ it. AllKept it (name_bytes names) 0 parts held.cells) held.source held.kept;
    named = sym (names_of-uses names) ∙ ap names_of uses;
    in_source = subst (AllByRecursion (IsUseIn s)) uses
        (subst (λ it. AllByRecursion (IsUseIn it) (uses_of names)) held.source (uses_in now names held.named));
    spelled = is ∙ ap (λ it. template_cells (length it) (drop 1 all) (map use_cell (uses_of names))) held.source
        ∙ ap (λ it. template_cells (length s) (drop 1 it) (map use_cell (uses_of names))) held.splits
        ∙ ap (λ it. template_cells (length s) held.cells (map use_cell it)) uses;
  }
