-- The output of any cells consists of spans of the source, of values, and of bytes of cells.
use Rattle.std.proofs.Common.{◌≡◌, ℕ, zero, suc, Bool, true, false, ◌&&◌, nat_le, Option, Some, None, List, [], ◌∷◌, ◌++◌, take, drop, length, refl, subst, arith}
use Rattle.std.proofs.lemmas.Bool.Decides.{nat_tests}
use Rattle.std.proofs.lemmas.List.{take-append-drop}
use Rattle.std.proofs.lemmas.List.Elements.{Contains-append_left, Contains-append_right}
use Rattle.std.specs.List.{Contains}
use Rattle.std.specs.Prelude.{if◌then◌else◌}
use Rattle.subst_language.specs.Parts.Span.{IsSpan, span_bytes}
use Rattle.subst_language.specs.declared.part.Span.{Span}
use Rattle.subst_indexed.specs.Cell.{decoded}
use Rattle.subst_indexed.specs.Expansion.{Expansion, Gives, Lacks, Breaks, Values, span_of, if_within, given_or, part_output, part_jump, outputs, after, in_row, expansion}
use Rattle.subst_indexed.specs.Laws.{IsMadeOf, IsHarmless}
use Rattle.subst_indexed.specs.Laws.IsMadeOf.{nothing, span, value, byte}
use Rattle.subst_indexed.specs.Template.{is_head, is_whole, parts_expansion, template_expansion}
use Rattle.subst_indexed.specs.declared.cell.Cell.{Cell}
use Rattle.subst_indexed.specs.declared.cell.NumberedPart.{NumberedPart}
use Rattle.subst_indexed.specs.declared.cell.NumberedPart.TheVariants.{Literal, Escaped, Variable, Default}

-- a span that passes the test is in the source
pub tested_span : (s : List ℕ) (name : Span) → nat_le name.start name.end && nat_le name.end (length s) ≡ true
    → IsSpan s name
tested_span s name passes = record { ordered = grind (arith, nat_tests); within = grind (arith, nat_tests) }

module _ (s : List ℕ) (values : Values) where
  module _ (some all : List Cell) (more : (cell : Cell) → Contains some cell → Contains all cell) where
    -- what is made of some cells is made of more
    made_of_more : {x : List ℕ} → IsMadeOf s values some x → IsMadeOf s values all x
    made_of_more nothing = nothing
    made_of_more (span it is rest) = span it is (made_of_more rest)
    made_of_more (value number v is rest) = value number v is (made_of_more rest)
    made_of_more (byte it b of is rest) = byte it b (more it of) is (made_of_more rest)

    -- so is an expansion
    harmless_of_more : (e : Expansion) → IsHarmless s values some e → IsHarmless s values all e
    harmless_of_more (Gives x) made = made_of_more made
    harmless_of_more (Lacks name) is = is
    harmless_of_more Breaks is = tt

  -- bytes before an expansion
  bytes_before : (cells : List Cell) (x : List ℕ) (e : Expansion)
      → ((y : List ℕ) → IsMadeOf s values cells y → IsMadeOf s values cells (x ++ y))
      → IsHarmless s values cells e → IsHarmless s values cells (after x e)
  bytes_before cells x (Gives y) before made = before y made
  bytes_before cells x (Lacks name) before is = is
  bytes_before cells x Breaks before is = tt

  -- the output of a cell before others
  output_before : (cell : Cell) (rest : List Cell) (kept : Option NumberedPart) (outs : List Expansion)
      → decoded cell ≡ kept → IsHarmless s values (cell ∷ rest) (in_row outs)
      → IsHarmless s values (cell ∷ rest) (in_row (part_output kept s values ∷ outs))
  output_before cell rest (Some (Literal start end)) outs is made =
      of (nat_le start end && nat_le end (length s)) (tested_span s (span_of start end))
    where
      of : (passes : Bool) → (passes ≡ true → IsSpan s (span_of start end))
          → IsHarmless s values (cell ∷ rest)
          (in_row ((if passes then Gives (span_bytes (span_of start end) s) else Breaks) ∷ outs))
      of true in_source = bytes_before (cell ∷ rest) (span_bytes (span_of start end) s) (in_row outs)
          (λ y. span (span_of start end) (in_source refl)) made
      of false in_source = tt
  output_before cell rest (Some (Escaped b)) outs is made =
      bytes_before (cell ∷ rest) (b ∷ []) (in_row outs) (λ y. byte cell b (0, omega arith, refl) is) made
  output_before cell rest (Some (Variable start end number)) outs is made =
      found (values number) (λ v x. value number v)
    where
      missing : (passes : Bool) → (passes ≡ true → IsSpan s (span_of start end))
          → IsHarmless s values (cell ∷ rest)
          (in_row ((if passes then Lacks (span_of start end) else Breaks) ∷ outs))
      missing true in_source = in_source refl
      missing false in_source = tt

      found : (given : Option (List ℕ))
          → ((v x : List ℕ) → given ≡ Some v → IsMadeOf s values (cell ∷ rest) x
          → IsMadeOf s values (cell ∷ rest) (v ++ x))
          → IsHarmless s values (cell ∷ rest)
          (in_row (given_or given (if_within s (span_of start end) (Lacks (span_of start end))) ∷ outs))
      found (Some v) before = bytes_before (cell ∷ rest) v (in_row outs) (λ y. before v y refl) made
      found None before =
          missing (nat_le start end && nat_le end (length s)) (tested_span s (span_of start end))
  output_before cell rest (Some (Default jump number)) outs is made = found (values number) (λ v x. value number v)
    where
      found : (given : Option (List ℕ))
          → ((v x : List ℕ) → given ≡ Some v → IsMadeOf s values (cell ∷ rest) x
          → IsMadeOf s values (cell ∷ rest) (v ++ x))
          → IsHarmless s values (cell ∷ rest) (in_row (given_or given (Gives []) ∷ outs))
      found (Some v) before = bytes_before (cell ∷ rest) v (in_row outs) (λ y. before v y refl) made
      found None before = bytes_before (cell ∷ rest) [] (in_row outs) (λ y made. made) made
  output_before cell rest None outs is made = tt

  -- the expansion of any cells
  harmless : (cells : List Cell) (skip : ℕ) → IsHarmless s values cells (expansion cells skip s values)
  harmless [] zero = nothing
  harmless [] (suc skip) = tt
  harmless (cell ∷ rest) (suc skip) =
      harmless_of_more rest (cell ∷ rest) (Contains-append_right (cell ∷ []) rest)
      (expansion rest skip s values) (harmless rest skip)
  harmless (cell ∷ rest) zero =
      let jump = part_jump (decoded cell) values in
      output_before cell rest (decoded cell) (outputs rest jump s values) refl
      (harmless_of_more rest (cell ∷ rest) (Contains-append_right (cell ∷ []) rest)
      (expansion rest jump s values) (harmless rest jump))

  -- the expansion of any template
  pub harmless_template : (cells : List Cell) → IsHarmless s values cells (template_expansion cells s values)
  harmless_template [] = tt
  harmless_template (head ∷ rest) = of (is_whole (head ∷ rest)) (is_head head (length s) rest)
    where
      in_all : (cell : Cell) → Contains (take head.second rest) cell → Contains (head ∷ rest) cell
      in_all cell has =
          Contains-append_right (head ∷ []) rest cell
          (subst (λ it. Contains it cell) (take-append-drop head.second rest)
          (Contains-append_left (take head.second rest) (drop head.second rest) cell has))

      of : (whole fits : Bool) → IsHarmless s values (head ∷ rest)
          (if whole then parts_expansion (if fits then Some (take head.second rest) else None) 0 s values
          else Breaks)
      of true true =
          harmless_of_more (take head.second rest) (head ∷ rest) in_all
          (expansion (take head.second rest) 0 s values) (harmless (take head.second rest) 0)
      of true false = tt
      of false fits = tt
