-- The reasons why an expansion of a parsed source stops.
use denote.Ref.{Bor}
use Rattle.std.proofs.Common.{◌≡◌, ℕ, zero, suc, ◌+◌, Option, Some, None, List, [], ◌∷◌, length, Err, refl, sym, ap, ◌∙◌, subst}
use Rattle.std.specs.Option.{option_and_then, option_map}
use Rattle.std.specs.Prelude.{IfSome, slice_get}
use Rattle.subst_error.specs.Fault.{Fault}
use Rattle.subst_language.specs.Language.Answer.{IsMissing}
use Rattle.subst_language.specs.Language.Name.{IsName}
use Rattle.subst_language.specs.Language.Sentence.{Spells}
use Rattle.subst_language.specs.Language.Tree.{Tree}
use Rattle.subst_language.specs.Language.Value.{Bytes, Missing, value}
use Rattle.subst_language.specs.Parts.Meaning.{AllFit, IsInSource}
use Rattle.subst_language.specs.Parts.Span.{IsSpan, span_bytes}
use Rattle.subst_language.specs.declared.part.Part.{Part}
use Rattle.subst_language.specs.declared.part.Part.TheVariants.{Literal, Escaped, Variable, Default}
use Rattle.subst_indexed.proofs.CellsValueLemmas.{template_names, template_value, within}
use Rattle.subst_indexed.proofs.TemplateLemmas.{template_cells-expansion}
use Rattle.subst_indexed.specs.Cell.{decoded}
use Rattle.subst_indexed.specs.Expansion.{Expansion, Gives, Lacks, Breaks, Values, if_within, given_or, part_output, part_jump, outputs, after, in_row, expansion}
use Rattle.subst_indexed.specs.Laws.{expansion_value}
use Rattle.subst_indexed.specs.Numbering.{AllKept, IsKept, look_by_number, look_of}
use Rattle.subst_indexed.specs.Outcome.{IsOutcome}
use Rattle.subst_indexed.specs.Parsed.{IsCellsOf}
use Rattle.subst_indexed.specs.Slot.{Agree, known_at, known_in, values_of}
use Rattle.subst_indexed.specs.Stops.{IsNamedStop, stop_fault}
use Rattle.subst_indexed.specs.Template.{template_expansion}
use Rattle.subst_indexed.specs.declared.cell.Cell.{Cell}
use Rattle.subst_indexed.specs.declared.cell.NumberedPart.{NumberedPart}
use Rattle.subst_indexed.specs.declared.cell.NumberedPart.TheVariants as numbered
use Rattle.subst_indexed.specs.declared.walk.Stop.{Stop}
use Rattle.subst_indexed.specs.declared.walk.Stop.TheVariants as stops

-- a value of a list is known
abbrev pub known : Option (Bor (List ℕ)) → Option (Option (List ℕ))
known value = Some (option_map (λ bytes. bytes.now) value)

-- the values of a list agree with what is known
pub agree_values : (list : List (Option (Bor (List ℕ)))) → Agree known list (values_of list)
agree_values list = λ number. of (slice_get list number)
  where
    of : (found : Option (Option (Bor (List ℕ))))
        → IfSome (known_in known found)
        (λ v. option_and_then (λ value. option_map (λ bytes. bytes.now) value) found ≡ v)
    of (Some value) = refl
    of None = refl

-- every value of a list has been asked for
pub all_known : (list : List (Option (Bor (List ℕ)))) (number : ℕ) → known_at known list number ≡ None → ⊥
all_known list number none = of (slice_get list number) none
  where
    of : (found : Option (Option (Bor (List ℕ)))) → known_in known found ≡ None → ⊥
    of (Some value) none = cc
    of None none = cc

-- if a variable is missing, its name is in the source
abbrev NamesMissing : List ℕ → Expansion → Type 0
NamesMissing s (Lacks name) = IsSpan s name × IsName (span_bytes name s)
NamesMissing s e = Unit {0}

module _ (s : List ℕ) (names : List (List ℕ)) (values : Values) where
  names_after : (x : List ℕ) (e : Expansion) → NamesMissing s e → NamesMissing s (after x e)
  names_after x (Gives y) is = tt
  names_after x (Lacks name) is = is
  names_after x Breaks is = tt

  -- the output of a kept part before others
  names_output : (at : ℕ) (part : Part) (kept : Option NumberedPart) (outs : List Expansion)
      → IsKept s names at part kept → IsInSource s part → NamesMissing s (in_row outs)
      → NamesMissing s (in_row (part_output kept s values ∷ outs))
  names_output at (Literal span) (Some (numbered.Literal start end)) outs is inside more =
      rw (is.0, is.1, within s span (Gives (span_bytes span s)) inside)
      (names_after (span_bytes span s) (in_row outs) more)
  names_output at (Escaped b) (Some (numbered.Escaped c)) outs is inside more =
      names_after (c ∷ []) (in_row outs) more
  names_output at (Variable name) (Some (numbered.Variable start end number)) outs is inside more =
      rw (is.0, is.1) (of (values number))
    where
      of : (found : Option (List ℕ))
          → NamesMissing s (in_row (given_or found (if_within s name (Lacks name)) ∷ outs))
      of (Some x) = names_after x (in_row outs) more
      of None = rw (within s name (Lacks name) inside.0) inside
  names_output at (Default name next) (Some (numbered.Default jump number)) outs is inside more =
      of (values number)
    where
      of : (found : Option (List ℕ)) → NamesMissing s (in_row (given_or found (Gives []) ∷ outs))
      of (Some x) = names_after x (in_row outs) more
      of None = names_after [] (in_row outs) more
  names_output at part kept outs is inside more = absurd is

  -- the expansion of kept parts
  names_missing : (at skip end : ℕ) (parts : List Part) (cells : List Cell) → AllKept s names at parts cells
      → AllFit at end s parts → NamesMissing s (expansion cells skip s values)
  names_missing at zero end [] [] kept fit = tt
  names_missing at (suc skip) end [] [] kept fit = tt
  names_missing at skip end [] (cell ∷ cells) kept fit = absurd kept
  names_missing at skip end (part ∷ parts) [] kept fit = absurd kept
  names_missing at (suc skip) end (part ∷ parts) (cell ∷ cells) kept fit =
      names_missing (at + 1) skip end parts cells kept.1 fit.1
  names_missing at zero end (part ∷ parts) (cell ∷ cells) kept fit =
      let jump = part_jump (decoded cell) values in
      names_output at part (decoded cell) (outputs cells jump s values) kept.0 fit.0.0
      (names_missing (at + 1) jump end parts cells kept.1 fit.1)

  module _ (cells : List Cell) (is : IsCellsOf s names cells) where
    -- the expansion of a source's cells
    template_missing : NamesMissing s (template_expansion cells s values)
    template_missing =
        let e : template_expansion cells s values ≡ expansion is.part_cells 0 s values =
        ap (λ it. template_expansion it s values) is.spelled
        ∙ template_cells-expansion s is.part_cells _ values
        in
        subst (NamesMissing s) (sym e)
        (names_missing 0 0 (0 + length is.parts) is.parts is.part_cells is.kept is.template.mean.fit)

    -- a source's cells are a template
    never_breaks : template_expansion cells s values ≡ Breaks → ⊥
    never_breaks breaks =
        let v = template_value s names values cells is.template.tree is is.template.spells in
        let none : expansion_value s (template_expansion cells s values) ≡ None = ap (expansion_value s) breaks in
        cc

    -- an expansion of them stops for want of memory, or of a variable
    pub named_stop : {T : Type 0} (is_unasked : ℕ → Type 0) (stop : Stop) (P : T → List ℕ → Type 0)
        → ((number : ℕ) → is_unasked number → ⊥)
        → IsOutcome is_unasked (template_expansion cells s values) (Err stop) P → IsNamedStop s stop
    named_stop is_unasked (stops.Full e) P asked outcome = tt
    named_stop is_unasked (stops.Missing name) P asked outcome = subst (NamesMissing s) outcome template_missing
    named_stop is_unasked (stops.Asks number) P asked outcome = absurd (asked number outcome)
    named_stop is_unasked stops.NotATemplate P asked outcome = absurd (never_breaks outcome)

    module _ (t : Tree) (spells : Spells t s) where
      -- the value of the tree, by number
      by_number : expansion_value s (template_expansion cells s values)
          ≡ Some (value 0 t (look_by_number t values))
      by_number =
          template_value s names values cells t is spells
          ∙ ap (λ all. Some (value 0 t (look_of all values))) (template_names s names cells t is spells)

      -- the bytes of an expansion are the tree's value
      pub value_given : (x : List ℕ) → template_expansion cells s values ≡ Gives x
          → value 0 t (look_by_number t values) ≡ Bytes x
      value_given x gives =
          let v = by_number in
          let given : expansion_value s (template_expansion cells s values) ≡ Some (Bytes x) =
          ap (expansion_value s) gives
          in
          cc

      -- the variable that is missing is the tree's missing one
      pub value_missing : {T : Type 0} (is_unasked : ℕ → Type 0) (stop : Stop) (P : T → List ℕ → Type 0)
          → ((number : ℕ) → is_unasked number → ⊥)
          → IsOutcome is_unasked (template_expansion cells s values) (Err stop) P
          → IfSome (stop_fault s stop) (IsMissing (value 0 t (look_by_number t values)))
      value_missing is_unasked (stops.Full e) P asked outcome = tt
      value_missing is_unasked (stops.Missing name) P asked outcome =
          let v = by_number in
          let given : expansion_value s (template_expansion cells s values)
          ≡ Some (Missing name.start (span_bytes name s)) = ap (expansion_value s) outcome
          in
          (name.start, span_bytes name s, cc, refl)
      value_missing is_unasked (stops.Asks number) P asked outcome = tt
      value_missing is_unasked stops.NotATemplate P asked outcome = tt

-- a fact about a fault holds of the same fault in an owned error
pub owned_fault : (owned borrowed stopped : Option Fault) (Q : Fault → Type 0)
    → IfSome owned (λ f. borrowed ≡ Some f) → borrowed ≡ stopped → IfSome stopped Q → IfSome owned Q
owned_fault (Some f) borrowed stopped Q same is holds =
    let it : stopped ≡ Some f = sym is ∙ same in
    let P : Option Fault → Type 0 = λ it. IfSome it Q in
    subst P it holds
owned_fault None borrowed stopped Q same is holds = tt
