-- The names of a parsed source, in the cells of its template.
use Rattle.std.proofs.Common.{◌≡◌, ℕ, zero, suc, true, false, Option, Some, None, List, [], ◌∷◌, map, length, refl, sym, ap, ◌∙◌, subst}
use denote.Ref.{Bor}
use Rattle.std.proofs.Math.Seq.{drop-append_seam}
use Rattle.std.proofs.lemmas.List.{length-map}
use Rattle.std.proofs.lemmas.Option.{slice_get-map}
use Rattle.std.specs.List.{AllByRecursion}
use Rattle.std.specs.Option.{option_map}
use Rattle.std.specs.Prelude.{slice_get}
use Rattle.std.specs.Slice.{IsGetRangeResult}
use Rattle.subst_language.specs.Language.Sentence.{Spells}
use Rattle.subst_language.specs.Language.Tree.{Tree}
use Rattle.subst_language.specs.Language.Variables.{variables_of}
use Rattle.subst_language.specs.Parts.Span.{IsSpan, span_bytes}
use Rattle.subst_language.specs.declared.part.Span.{Span}
use Rattle.subst_language.proofs.Language.OneTreeLemmas.{tree_unique}
use Rattle.subst_indexed.specs.Numbering.{FirstUse, IsUseIn, first_uses, names_of}
use Rattle.subst_indexed.specs.Parsed.{IsCellsOf}
use Rattle.subst_indexed.specs.Template.{cell_span, name_cells, use_cell}
use Rattle.subst_indexed.specs.declared.cell.Cell.{Cell}

-- the cells of first uses have the spans of their names
spans_of_uses : (s : List ℕ) (uses : List FirstUse) → AllByRecursion (IsUseIn s) uses
    → map (λ cell. span_bytes (cell_span cell) s) (map use_cell uses) ≡ names_of uses
spans_of_uses s [] inside = refl
spans_of_uses s (it ∷ uses) inside =
    ap (λ name. name ∷ map (λ cell. span_bytes (cell_span cell) s) (map use_cell uses)) inside.0.1
    ∙ ap (λ rest. it.name ∷ rest) (spans_of_uses s uses inside.1)

-- a use of a list is in the source
use_at : (s : List ℕ) (uses : List FirstUse) (number : ℕ) (it : FirstUse) → AllByRecursion (IsUseIn s) uses
    → slice_get uses number ≡ Some it → IsUseIn s it
use_at s [] number it inside is = absurd cc
use_at s (first ∷ uses) zero it inside is =
    let same : first ≡ it = cc in subst (λ (u : FirstUse). IsUseIn s u) same inside.0
use_at s (first ∷ uses) (suc number) it inside is = use_at s uses number it inside.1 is

module _ (s : List ℕ) (names : List (List ℕ)) (cells : List Cell) (is : IsCellsOf s names cells) where
  -- the name cells of a template are those of the first uses
  name_cells-uses : name_cells cells ≡ map use_cell (first_uses (variables_of 0 is.template.tree))
  name_cells-uses = ap name_cells is.spelled ∙ drop-append_seam is.part_cells _

  -- their spans are those of the names
  pub name_spans : map (λ cell. span_bytes (cell_span cell) s) (name_cells cells) ≡ names
  name_spans =
      ap (map (λ cell. span_bytes (cell_span cell) s)) name_cells-uses
      ∙ spans_of_uses s (first_uses (variables_of 0 is.template.tree)) is.in_source ∙ sym is.named

  module _ (t : Tree) (spells : Spells t s) where
    -- there are as many as names
    pub names_counted : length (name_cells cells) ≡ length (first_uses (variables_of 0 t))
    names_counted =
        ap length name_cells-uses ∙ length-map (first_uses (variables_of 0 is.template.tree)) use_cell
        ∙ ap (λ u. length (first_uses (variables_of 0 u)))
        (tree_unique s is.template.tree t is.template.spells spells)

    -- a name's span has it, and there is no span without a name
    abbrev pub Names : Option Span → Option (List ℕ) → Type 0
    Names (Some span) name = IsSpan s span × (Some (span_bytes span s) ≡ name)
    Names None name = None ≡ name

    pub named : (number : ℕ) (span : Option Span)
        → span ≡ option_map cell_span (slice_get (name_cells cells) number)
        → Names span (slice_get (names_of (first_uses (variables_of 0 t))) number)
    named number span has =
        let same = ap (λ u. slice_get (names_of (first_uses (variables_of 0 u))) number)
        (tree_unique s is.template.tree t is.template.spells spells)
        in
        subst (Names span) same
        (subst (λ it. Names it (slice_get (names_of uses) number))
        (sym (has ∙ ap (λ all. option_map cell_span (slice_get all number)) name_cells-uses
        ∙ ap (option_map cell_span) (slice_get-map use_cell uses number)))
        (subst (Names (option_map cell_span (option_map use_cell (slice_get uses number))))
        (sym (slice_get-map (λ (it : FirstUse). it.name) uses number)) (of (slice_get uses number) refl)))
      where
        uses : List FirstUse
        uses = first_uses (variables_of 0 is.template.tree)

        of : (found : Option FirstUse) → slice_get uses number ≡ found
            → Names (option_map cell_span (option_map use_cell found))
            (option_map (λ (it : FirstUse). it.name) found)
        of (Some it) found =
            let inside = use_at s uses number it is.in_source found in
            (inside.0, ap (λ name. Some name) inside.1)
        of None found = refl

-- what is read at a span of a source
pub read_at : (s : List ℕ) (span : Span) (found : Option (Bor (List ℕ))) → IsSpan s span
    → IsGetRangeResult s span.start span.end found
    → option_map (λ name. name.now) found ≡ Some (span_bytes span s)
read_at s span (Some name) inside got = ap (λ it. Some it) got.0.2
read_at s span None inside got =
    let some : false ≡ true = got.1 (inside.ordered, inside.within) in
    cc
