-- The expansion of the cells of a source is the value of the source's tree.
use Rattle.std.proofs.Common.{◌≡◌, ℕ, zero, suc, ◌+◌, ◌<◌, ◌≤◌, true, nat_le, Option, Some, None, List, [], ◌∷◌, ◌++◌, length, map, refl, sym, ap, ◌∙◌, subst, arith}
use Rattle.std.proofs.lemmas.Bool.Decides.{nat_tests}
use Rattle.subst_language.specs.Language.Steps.{Step, Own, Given, Lacks, steps_value, given_or}
use Rattle.subst_language.specs.Language.Steps as steps
use Rattle.subst_language.specs.Language.Value.{Value, Bytes, Missing, joined, value}
use Rattle.subst_language.specs.Language.Variables.{variables_of}
use Rattle.subst_language.specs.Language.Sentence.{Spells}
use Rattle.subst_language.specs.Language.Tree.{Tree}
use Rattle.subst_language.specs.Parts.Meaning.{IsInSource, JumpsWithin, AllFit, part_steps, steps_in, if_found, resume_index, visited_parts, IsTemplateOf}
use Rattle.subst_language.specs.Parts.Span.{IsSpan, span_bytes}
use Rattle.subst_language.specs.declared.part.Span.{Span}
use Rattle.subst_language.specs.declared.part.Part.{Part}
use Rattle.subst_language.specs.declared.part.Part.TheVariants.{Literal, Escaped, Variable, Default}
use Rattle.subst_language.proofs.Language.OneTreeLemmas.{tree_unique}
use Rattle.subst_language.proofs.PartsLemmas.{visited_parts-before, visited_parts-from, visited_parts-anywhere, same_value}
use Rattle.subst_indexed.proofs.TemplateLemmas.{template_cells-expansion}
use Rattle.subst_indexed.specs.Cell.{decoded}
use Rattle.subst_indexed.specs.Expansion.{Expansion, Gives, Breaks, Values, span_of, if_within, part_output, jump_if_found, part_jump, outputs, after, in_row, expansion}
use Rattle.subst_indexed.specs.Expansion as expansions
use Rattle.subst_indexed.specs.Laws.{expansion_value}
use Rattle.subst_indexed.specs.Parsed.{IsCellsOf}
use Rattle.subst_indexed.specs.Template.{template_expansion, use_cell}
use Rattle.subst_indexed.specs.Numbering.{first_uses, names_of, number_of, look_of, IsKept, AllKept}
use Rattle.subst_indexed.specs.declared.cell.Cell.{Cell}
use Rattle.subst_indexed.specs.declared.cell.NumberedPart.{NumberedPart}
use Rattle.subst_indexed.specs.declared.cell.NumberedPart.TheVariants as numbered

-- a span of the source is found to be one
pub within : (s : List ℕ) (span : Span) (e : Expansion) → IsSpan s span → if_within s span e ≡ e
within s span e is =
    let ordered : nat_le span.start span.end ≡ true = grind (arith, nat_tests, is.ordered) in
    let inside : nat_le span.end (length s) ≡ true = grind (arith, nat_tests, is.within) in
    rw (ordered, inside) refl

-- the value of bytes before an expansion
after_value : (s x : List ℕ) (e : Expansion) (v : Value) → expansion_value s e ≡ Some v
    → expansion_value s (after x e) ≡ Some (joined (Bytes x) v)
after_value s x (Gives y) v is = subst (λ w. Some (Bytes (x ++ y)) ≡ Some (joined (Bytes x) w)) (some v is) refl
  where
    some : (w : Value) → Some (Bytes y) ≡ Some w → Bytes y ≡ w
    some w same = cc
after_value s x (expansions.Lacks name) v is =
    subst (λ w. Some (Missing name.start (span_bytes name s)) ≡ Some (joined (Bytes x) w)) (some v is) refl
  where
    some : (w : Value) → Some (Missing name.start (span_bytes name s)) ≡ Some w
        → Missing name.start (span_bytes name s) ≡ w
    some w same = cc
after_value s x Breaks v is = absurd cc

-- no bytes change nothing
after_nothing : (e : Expansion) → after [] e ≡ e
after_nothing (Gives y) = refl
after_nothing (expansions.Lacks name) = refl
after_nothing Breaks = refl

-- bytes of the source joined before steps
own_steps : (x : List ℕ) (rest : List Step)
    → steps_value (map Own x ++ rest) ≡ joined (Bytes x) (steps_value rest)
own_steps [] rest = sym (nothing (steps_value rest))
  where
    nothing : (v : Value) → joined (Bytes []) v ≡ v
    nothing (Bytes y) = refl
    nothing (Missing position name) = refl
own_steps (b ∷ x) rest = ap (joined (Bytes (b ∷ []))) (own_steps x rest) ∙ one (steps_value rest)
  where
    one : (v : Value) → joined (Bytes (b ∷ [])) (joined (Bytes x) v) ≡ joined (Bytes (b ∷ x)) v
    one (Bytes y) = refl
    one (Missing position name) = refl

module _ (s : List ℕ) (names : List (List ℕ)) (values : Values) where
  -- the value of a name is that with its number
  numbered_look : (name : List ℕ) (number : ℕ) → number_of names name ≡ Some number
      → look_of names values name ≡ values number
  numbered_look name number is = rw is refl

  -- a variable's value, or its missing name
  variable_value : (name : Span) (found : Option (List ℕ)) (outs : List Expansion) (rest : List Step)
      → IsSpan s name → expansion_value s (in_row outs) ≡ Some (steps_value rest)
      → expansion_value s (in_row (expansions.given_or found
      (if_within s name (expansions.Lacks name)) ∷ outs))
      ≡ Some (steps_value (given_or found (steps.Lacks name.start (span_bytes name s) ∷ []) ++ rest))
  variable_value name (Some x) outs rest is same = after_value s x (in_row outs) (steps_value rest) same
  variable_value name None outs rest is same = rw (within s name (expansions.Lacks name) is) refl

  -- a default's value, or what follows
  default_value : (found : Option (List ℕ)) (outs : List Expansion) (rest : List Step)
      → expansion_value s (in_row outs) ≡ Some (steps_value rest)
      → expansion_value s (in_row (expansions.given_or found (Gives []) ∷ outs))
      ≡ Some (steps_value (given_or found [] ++ rest))
  default_value (Some x) outs rest same = after_value s x (in_row outs) (steps_value rest) same
  default_value None outs rest same = ap (expansion_value s) (after_nothing (in_row outs)) ∙ same

  -- a kept part's output is the value of its steps
  kept_output : (at : ℕ) (part : Part) (kept : Option NumberedPart) (outs : List Expansion) (rest : List Step)
      → IsKept s names at part kept → IsInSource s part
      → expansion_value s (in_row outs) ≡ Some (steps_value rest)
      → expansion_value s (in_row (part_output kept s values ∷ outs))
      ≡ Some (steps_value (part_steps part s (look_of names values) ++ rest))
  kept_output at (Literal span) (Some (numbered.Literal start end)) outs rest is inside same =
      rw (is.0, is.1, within s span (Gives (span_bytes span s)) inside, own_steps (span_bytes span s) rest)
      (after_value s (span_bytes span s) (in_row outs) (steps_value rest) same)
  kept_output at (Escaped b) (Some (numbered.Escaped c)) outs rest is inside same =
      rw is (after_value s (b ∷ []) (in_row outs) (steps_value rest) same)
  kept_output at (Variable name) (Some (numbered.Variable start end number)) outs rest is inside same =
      rw (is.0, is.1, numbered_look (span_bytes name s) number is.2)
      (variable_value name (values number) outs rest inside.0 same)
  kept_output at (Default name next) (Some (numbered.Default jump number)) outs rest is inside same =
      rw (numbered_look (span_bytes name s) number is.1) (default_value (values number) outs rest same)
  kept_output at part kept outs rest is inside same = absurd is

  -- after a kept part, as many cells are skipped as parts
  kept_jump : (at end : ℕ) (part : Part) (kept : Option NumberedPart) (parts : List Part)
      → IsKept s names at part kept → JumpsWithin at end part
      → visited_parts parts (at + 1) (resume_index part s (look_of names values)) s (look_of names values)
      ≡ visited_parts parts (at + 1) (at + 1 + part_jump kept values) s (look_of names values)
  kept_jump at end (Default name next) (Some (numbered.Default jump number)) parts is jumps =
      rw (numbered_look (span_bytes name s) number is.1) (of (values number))
    where
      of : (found : Option (List ℕ))
          → visited_parts parts (at + 1) (if_found found next) s (look_of names values)
          ≡ visited_parts parts (at + 1) (at + 1 + jump_if_found found jump) s (look_of names values)
      of (Some x) = ap (λ n. visited_parts parts (at + 1) n s (look_of names values))
          (omega (arith, is.0, jumps.0))
      of None = sym (visited_parts-anywhere parts (at + 1) (at + 1 + 0) s (look_of names values) (omega arith))
  kept_jump at end (Literal span) (Some (numbered.Literal start stop)) parts is jumps =
      sym (visited_parts-anywhere parts (at + 1) (at + 1 + 0) s (look_of names values) (omega arith))
  kept_jump at end (Escaped b) (Some (numbered.Escaped c)) parts is jumps =
      sym (visited_parts-anywhere parts (at + 1) (at + 1 + 0) s (look_of names values) (omega arith))
  kept_jump at end (Variable name) (Some (numbered.Variable start stop number)) parts is jumps =
      sym (visited_parts-anywhere parts (at + 1) (at + 1 + 0) s (look_of names values) (omega arith))
  kept_jump at end part kept parts is jumps = absurd is

  -- what the jump of a kept part leaves out is there
  kept_lands : (at end : ℕ) (part : Part) (kept : Option NumberedPart) → IsKept s names at part kept
      → JumpsWithin at end part → at < end → at + 1 + part_jump kept values ≤ end
  kept_lands at end (Default name next) (Some (numbered.Default jump number)) is jumps below =
      of (values number)
    where
      of : (found : Option (List ℕ)) → at + 1 + jump_if_found found jump ≤ end
      of (Some x) = omega (arith, is.0, jumps.0, jumps.1)
      of None = omega arith
  kept_lands at end (Literal span) (Some (numbered.Literal start stop)) is jumps below = omega arith
  kept_lands at end (Escaped b) (Some (numbered.Escaped c)) is jumps below = omega arith
  kept_lands at end (Variable name) (Some (numbered.Variable start stop number)) is jumps below = omega arith
  kept_lands at end part kept is jumps below = absurd is

  -- the cells from any on expand to the value of the steps of the parts
  pub kept_value : (at skip end : ℕ) (parts : List Part) (cells : List Cell) → AllKept s names at parts cells
      → AllFit at end s parts → end ≡ at + length parts → at + skip ≤ end
      → expansion_value s (expansion cells skip s values)
      ≡ Some (steps_value (steps_in (visited_parts parts at (at + skip) s (look_of names values)) s
      (look_of names values)))
  kept_value at zero end [] [] kept fit is lands = refl
  kept_value at (suc skip) end [] [] kept fit is lands = absurd (omega arith)
  kept_value at skip end [] (cell ∷ cells) kept fit is lands = absurd kept
  kept_value at skip end (part ∷ parts) [] kept fit is lands = absurd kept
  kept_value at (suc skip) end (part ∷ parts) (cell ∷ cells) kept fit is lands =
      let look = look_of names values in
      kept_value (at + 1) skip end parts cells kept.1 fit.1 (omega arith) (omega arith)
      ∙ ap (λ n. Some (steps_value (steps_in (visited_parts parts (at + 1) n s look) s look))) (omega arith)
      ∙ ap (λ visited. Some (steps_value (steps_in visited s look)))
      (sym (visited_parts-before part parts at (at + suc skip) s look (omega arith)))
  kept_value at zero end (part ∷ parts) (cell ∷ cells) kept fit is lands =
      let look = look_of names values in
      let jump = part_jump (decoded cell) values in
      kept_output at part (decoded cell) (outputs cells jump s values)
      (steps_in (visited_parts parts (at + 1) (at + 1 + jump) s look) s look) kept.0 fit.0.0
      (kept_value (at + 1) jump end parts cells kept.1 fit.1 (omega arith)
      (kept_lands at end part (decoded cell) kept.0 fit.0.1 (omega arith)))
      ∙ ap (λ visited. Some (steps_value (part_steps part s look ++ steps_in visited s look)))
      (sym (kept_jump at end part (decoded cell) parts kept.0 fit.0.1))
      ∙ ap (λ visited. Some (steps_value (steps_in visited s look)))
      (sym (visited_parts-from part parts at (at + 0) s look (omega arith)))

  -- the cells of the parts of a source expand to the value of the source's tree
  parts_value : (cells : List Cell) (parts : List Part) (t : Tree) → AllKept s names 0 parts cells
      → (template : IsTemplateOf s parts) → Spells t s
      → expansion_value s (expansion cells 0 s values) ≡ Some (value 0 t (look_of names values))
  parts_value cells parts t kept template spells =
      let look = look_of names values in
      kept_value 0 0 (0 + length parts) parts cells kept template.mean.fit refl (omega arith)
      ∙ ap (λ v. Some v) (same_value template.mean look)
      ∙ ap (λ u. Some (value 0 u look)) (tree_unique s template.tree t template.spells spells)

  -- so do those of a template
  pub template_value : (cells : List Cell) (t : Tree) → IsCellsOf s names cells → Spells t s
      → expansion_value s (template_expansion cells s values) ≡ Some (value 0 t (look_of names values))
  template_value cells t is spells =
      let uses = map use_cell (first_uses (variables_of 0 is.template.tree)) in
      ap (λ it. expansion_value s (template_expansion it s values)) is.spelled
      ∙ ap (expansion_value s) (template_cells-expansion s is.part_cells uses values)
      ∙ parts_value is.part_cells is.parts t is.kept is.template spells

-- the names of a source's cells are those of its tree
pub template_names : (s : List ℕ) (names : List (List ℕ)) (cells : List Cell) (t : Tree) → IsCellsOf s names cells
    → Spells t s → names ≡ names_of (first_uses (variables_of 0 t))
template_names s names cells t is spells =
    is.named ∙ ap (λ u. names_of (first_uses (variables_of 0 u)))
    (tree_unique s is.template.tree t is.template.spells spells)
