-- The progress of a pass over the parts that lists their variables, or the missing ones.
use Rattle.std.proofs.Common.{◌≡◌, ℕ, ◌+◌, Option, Some, None, List, [], ◌∷◌, ◌++◌, map, drop, append_assoc, refl, sym, ap, ◌∙◌}
use Rattle.std.proofs.lemmas.List.{map-append}
use Rattle.std.proofs.lemmas.List.Elements.{filter_map-append}
use Rattle.std.specs.List.{filter_map}
use Rattle.subst_error.specs.declared.NoSuchVariable as errors
use Rattle.subst_language.specs.Language.LookUp.{LookUp}
use Rattle.subst_language.specs.Language.Steps.{Own, given_or}
use Rattle.subst_language.specs.Language.Variables.{lacked}
use Rattle.subst_language.specs.Calls.Variables.{variable_of, missing_variable}
use Rattle.subst_language.specs.declared.variable.Variable as declared
use Rattle.subst_language.proofs.Language.ListLemmas.{IsElementAt}
use Rattle.subst_language.specs.Parts.Meaning.{FitsAt, part_variables, variables_in, part_missing, part_steps, steps_in, parts_missing, visited_parts, next_index}
use Rattle.subst_language.specs.declared.part.Part.{Part}
use Rattle.subst_language.specs.declared.part.Part.TheVariants.{Literal, Escaped, Variable, Default}
use Rattle.subst_language.specs.Parts.Span.{span_bytes}
use Rattle.subst_expand.proofs.ExpandLemmas.{goes_on}

-- the listed variables, and those of the parts from the index `at` on, are all
pub record TellsSoFar (parts : List Part) (s : List ℕ) (list : List declared.Variable) (at : ℕ) : Type 0 where
  pub together : map variable_of list ++ variables_in (drop at parts) s ≡ variables_in parts s

-- after a part that has no variable
pub tells_on : {parts : List Part} {s : List ℕ} {list : List declared.Variable} {at : ℕ} {part : Part}
    → TellsSoFar parts s list at → IsElementAt parts at part → part_variables part s ≡ []
    → TellsSoFar parts s list (at + 1)
tells_on {parts = parts} {s = s} {list = list} {at = at} so_far here none = record {
  together =
      ap (λ these. map variable_of list ++ (these ++ variables_in (drop (at + 1) parts) s)) (sym none)
      ∙ ap (λ rest. map variable_of list ++ variables_in rest s) (sym here.spelled)
      ∙ so_far.together;
}

-- after a part whose variable is appended to the list
pub tells_more : {parts : List Part} {s : List ℕ} {list grown : List declared.Variable} {at : ℕ}
    {part : Part} (v : declared.Variable)
    → TellsSoFar parts s list at → IsElementAt parts at part → part_variables part s ≡ variable_of v ∷ []
    → grown ≡ list ++ v ∷ [] → TellsSoFar parts s grown (at + 1)
tells_more {parts = parts} {s = s} {list = list} {at = at} v so_far here this is =
    let rest = variables_in (drop (at + 1) parts) s in
    record {
      together =
          ap (λ all. all ++ rest) (ap (map variable_of) is ∙ map-append variable_of list (v ∷ []))
          ∙ append_assoc (map variable_of list) (variable_of v ∷ []) rest
          ∙ ap (λ these. map variable_of list ++ (these ++ rest)) (sym this)
          ∙ ap (λ tail. map variable_of list ++ variables_in tail s) (sym here.spelled)
          ∙ so_far.together;
    }

-- the listed variables, and the missing ones of the parts from the index `at` on, are all missing ones
pub record ListsSoFar (parts : List Part) (s : List ℕ) (look : LookUp) (list : List errors.NoSuchVariable)
    (at : ℕ)
    : Type 0 where
  pub together : map missing_variable list
      ++ filter_map lacked (steps_in (visited_parts (drop at parts) at 0 s look) s look)
      ≡ parts_missing parts s look

-- a part's missing variable is that of its steps
part_lacks : (part : Part) (s : List ℕ) (look : LookUp)
    → filter_map lacked (part_steps part s look) ≡ part_missing part s look
part_lacks (Literal span) s look = own (span_bytes span s)
  where
    own : (x : List ℕ) → filter_map lacked (map Own x) ≡ []
    own [] = refl
    own (b ∷ x) = own x
part_lacks (Escaped b) s look = refl
part_lacks (Variable name) s look = refl
part_lacks (Default name next) s look = of (look (span_bytes name s))
  where
    of : (found : Option (List ℕ)) → filter_map lacked (given_or found []) ≡ []
    of (Some x) = refl
    of None = refl

-- with other parts after it, it comes first
missing_first : (part : Part) (rest : List Part) (s : List ℕ) (look : LookUp)
    → filter_map lacked (steps_in (part ∷ rest) s look)
    ≡ part_missing part s look ++ filter_map lacked (steps_in rest s look)
missing_first part rest s look =
    filter_map-append lacked (part_steps part s look) (steps_in rest s look)
    ∙ ap (λ missing. missing ++ filter_map lacked (steps_in rest s look)) (part_lacks part s look)

-- after a part whose missing variable, if any, is appended to the list
pub lists_next : {parts : List Part} {s : List ℕ} {look : LookUp} {list grown : List errors.NoSuchVariable}
    {at next : ℕ} (end : ℕ) (part : Part) (these : List errors.NoSuchVariable)
    → ListsSoFar parts s look list at → IsElementAt parts at part → FitsAt at end s part
    → map missing_variable these ≡ part_missing part s look → grown ≡ list ++ these
    → next ≡ next_index part s look (at + 1) → ListsSoFar parts s look grown next
lists_next {parts = parts} {s = s} {look = look} {list = list} {at = at} {next = next} end part these
    so_far here fits this is goes =
    let rest = λ (i : ℕ). filter_map lacked (steps_in (visited_parts (drop i parts) i 0 s look) s look) in
    let after = next_index part s look (at + 1) in
    let there = goes_on end part here fits.1 in
    record {
      together =
          ap (λ missing. missing ++ rest next)
          (ap (map missing_variable) is ∙ map-append missing_variable list these)
          ∙ append_assoc (map missing_variable list) (map missing_variable these) (rest next)
          ∙ ap (λ missing. map missing_variable list ++ (missing ++ rest next)) this
          ∙ ap (λ i. map missing_variable list ++ (part_missing part s look ++ rest i)) goes
          ∙ ap (λ missing. map missing_variable list ++ missing)
          (sym (missing_first part (visited_parts (drop after parts) after 0 s look) s look))
          ∙ ap (λ visited. map missing_variable list ++ filter_map lacked (steps_in visited s look))
          (sym there.visits)
          ∙ so_far.together;
    }
