-- The names of a source that is parsed into cells.
use Rattle.std.proofs.Common.{◌≡◌, ◌+◌, ◌-◌, ◌<◌, ◌≤◌, ℕ, List, drop, take, [], Option, Some, None, IfSome, MatchOption, length, inl, inr, refl, sym, ap, ◌∙◌, subst, arith, slice_range}
use Rattle.std.proofs.lemmas.List.{drop-drop, drop-take}
use Rattle.std.proofs.lemmas.Option.{slice_get-get_or}
use Rattle.std.specs.Prelude.{slice_get}
use Rattle.subst_language.specs.Parts.Span.{IsSpan, span_bytes}
use Rattle.subst_language.specs.declared.part.Span.{Span}
use Rattle.subst_indexed.proofs.CellsValueLemmas.{template_names}
use Rattle.subst_indexed.proofs.NameLemmas.{Names, named}
use Rattle.subst_indexed.specs.Parsed.{IsCellsOf}
use Rattle.subst_indexed.specs.declared.cell.Cell.{Cell}
use Rattle.subst_c.specs.Names.{IsNameTold, IsUseTold, span_at}
use Rattle.subst_c.specs.declared.variables.VariableRecord.{VariableRecord}

-- each name of a parsed source has a span
module _ (s : List ℕ) (names : List (List ℕ)) (cells : List Cell) (is : IsCellsOf s names cells)
    (number result : ℕ) (old new : VariableRecord) where
  told_at : (found : Option Span)
      → Names s names cells is is.template.tree is.template.spells found (slice_get names number)
      → IsUseTold s found result old new → IsNameTold s names number result new
  told_at (Some name) has (inl (done, inside, told)) =
      let end : name.start + (name.end - name.start) ≡ name.end = omega (arith, inside.ordered) in
      let bytes : slice_range s new.position (new.position + new.length) ≡ span_bytes name s =
      rw (told, end) refl
      in
      (λ below. done, λ is. sym has.1 ∙ ap (λ x. Some x) (sym bytes))
  told_at (Some name) has (inr (other, outside, kept)) = absurd (outside has.0)
  told_at None has (other, kept) =
      (λ below. let some = slice_get-get_or names number [] below in absurd cc, λ is. cc)

  pub name_told : IsUseTold s (span_at cells number) result old new → IsNameTold s names number result new
  name_told told =
      let t = is.template.tree in
      let spells = is.template.spells in
      let has = named s names cells is t spells number (span_at cells number) refl in
      told_at (span_at cells number)
      (subst (λ (all : List (List ℕ)). Names s names cells is t spells (span_at cells number)
      (slice_get all number)) (sym (template_names s names cells t is spells)) has) told

-- a name of a parsed source is at the span that the cells have for its number
module _ (s : List ℕ) (names : List (List ℕ)) (cells : List Cell) (is : IsCellsOf s names cells) (number : ℕ) where
  pub named_at : (found : Option Span)
      → MatchOption found (IfSome (span_at cells number) (λ name. ¬ (IsSpan s name)))
      (λ name. (span_at cells number ≡ Some name) × IsSpan s name)
      → MatchOption found (number < length names → ⊥) (λ name. slice_get names number ≡ Some (span_bytes name s))
  named_at found is_found = of found (span_at cells number) refl is_found
    where
      at : (o : Option Span) → span_at cells number ≡ o
          → Names s names cells is is.template.tree is.template.spells o (slice_get names number)
      at o same =
          let t = is.template.tree in
          let spells = is.template.spells in
          subst (λ (all : List (List ℕ)). Names s names cells is t spells o (slice_get all number))
          (sym (template_names s names cells t is spells))
          (named s names cells is t spells number o (sym same))

      of : (found o : Option Span) → span_at cells number ≡ o
          → MatchOption found (IfSome o (λ name. ¬ (IsSpan s name))) (λ name. (o ≡ Some name) × IsSpan s name)
          → MatchOption found (number < length names → ⊥)
          (λ name. slice_get names number ≡ Some (span_bytes name s))
      of (Some name) o same h = sym (at (Some name) (same ∙ h.0)).1
      of None (Some name) same h = λ below. h (at (Some name) same).0
      of None None same h = λ below.
          let none = at None same in
          let some = slice_get-get_or names number [] below in absurd cc

-- the bytes after the first q bytes of a span
pub bytes_after : (s : List ℕ) (name : Span) (q : ℕ) → q ≤ name.end - name.start → drop q (span_bytes name s)
    ≡ slice_range s (name.start + q) (name.start + q + (name.end - name.start - q))
bytes_after s name q within =
    let n = name.end - name.start in
    let whole : n ≡ q + (n - q) = omega (arith, within) in
    let rest : name.start + q + (n - q) - (name.start + q) ≡ n - q = omega arith in
    ap (λ m. drop q (take m (drop name.start s))) whole ∙ drop-take q (n - q) (drop name.start s)
    ∙ ap (take (n - q)) (drop-drop q name.start s)
    ∙ sym (ap (λ m. take m (drop (name.start + q) s)) rest)
