-- The lists of variables, and of missing ones, as those of the source's tree.
use Rattle.std.proofs.Common.{is_some, ◌≡◌, ◌≤◌, ℕ, length, List, [], ◌∷◌, map, Option, Result, Vec, Global, IfOk, ap, ◌∙◌}
use Rattle.std.proofs.lemmas.Result.{IfOk-weaker}
use Rattle.std.specs.List.{All, AllByRecursion, filter_map}
use Rattle.std.specs.Str.{IsUtf8}
use Rattle.subst_error.specs.Range.{IsRangeIn}
use Rattle.subst_error.specs.declared.NoSuchVariable as errors
use Rattle.subst_language.specs.Calls.VariableMap.{ByNames}
use Rattle.subst_language.specs.Calls.Variables.{variable_of, variable_range, missing_variable, missing_range}
use Rattle.subst_language.specs.Language.Sentence.{ByTree}
use Rattle.subst_language.specs.Language.Tree.{Tree}
use Rattle.subst_language.specs.Language.Variables as variables
use Rattle.subst_language.specs.Language.Variables.{name_range, variables_of, lacked, all_missing}
use Rattle.subst_language.specs.declared.variable.Variable as declared
use Rattle.subst_language.proofs.Language.AlikeLemmas.{found_as_read}
use Rattle.subst_language.proofs.Language.ListLemmas.{each_mapped}
use Rattle.subst_language.proofs.Language.MissingLemmas.{missing_among}
use Rattle.subst_language.proofs.Language.OneTreeLemmas.{tree_unique}
use Rattle.subst_language.proofs.Language.RangeLemmas.{variables_in_text}
use Rattle.subst_language.proofs.Language.RangeWithinLemmas.{variables_within}
use Rattle.subst_expand.specs.Filled.{mark, marks_of}
use Rattle.subst_language.specs.Parts.Meaning.{IsTemplateOf, variables_in, parts_missing}
use Rattle.subst_language.specs.declared.part.Part.{Part}

-- a look-up of marks has values for the same names as the map
pub marks_by_names : {Seen : Type 0} (look_up : List ℕ → Option Seen) (name : List ℕ)
    → is_some (marks_of look_up name) ≡ is_some (look_up name)
marks_by_names look_up name = found_as_read (λ _. mark ∷ []) (look_up name)

module _ {E : Type 0} (s : List ℕ) (own : List Part) {parts : List Part} (template : IsTemplateOf s parts)
    (same : own ≡ parts) where
  -- a list of the variables of the parts is one of those of the source's tree
  lists_variables : (result : Result (Vec declared.Variable Global) E)
      → IfOk result (λ list. map variable_of list.items ≡ variables_in own s)
      → IfOk result (λ list. ByTree s (λ t. map variable_of list.items ≡ variables_of 0 t))
  lists_variables result =
      IfOk-weaker result _ _ (λ list is t spells.
      is ∙ ap (λ (xs : List Part). variables_in xs s) same ∙ template.mean.same_variables
      ∙ ap (variables_of 0) (tree_unique s template.tree t template.spells spells))

  -- a property of each variable of the tree holds of each listed one
  each_variable : (P : variables.Variable → Type 0) (result : Result (Vec declared.Variable Global) E)
      → AllByRecursion P (variables_of 0 template.tree)
      → IfOk result (λ list. map variable_of list.items ≡ variables_in own s)
      → IfOk result (λ list. All (λ v. P (variable_of v)) list.items)
  each_variable P result each =
      IfOk-weaker result _ _ (λ list is. each_mapped variable_of P list.items
      (is ∙ ap (λ (xs : List Part). variables_in xs s) same ∙ template.mean.same_variables) each)

  -- so each listed name ends within the source, and begins and ends at character boundaries of a text
  pub variables_told : (result : Result (Vec declared.Variable Global) E)
      → IfOk result (λ list. map variable_of list.items ≡ variables_in own s)
      → IfOk result (λ list. ByTree s (λ t. map variable_of list.items ≡ variables_of 0 t))
      × IfOk result (λ list. All (λ v. (variable_range v).end ≤ length s) list.items)
      × (IsUtf8 s → IfOk result (λ list. All (λ v. IsRangeIn s (variable_range v)) list.items))
  variables_told result lists = (
    lists_variables result lists,
    each_variable (λ v. (name_range v).end ≤ length s) result (variables_within s _ template.spells) lists,
    λ is. each_variable (λ v. IsRangeIn s (name_range v)) result
        (variables_in_text s _ is template.spells) lists,
  )

  module _ {Seen : Type 0} (look_up : List ℕ → Option Seen)
      (result : Result (Vec errors.NoSuchVariable Global) E)
      (lists : ByNames look_up (λ look. IfOk result
      (λ list. map missing_variable list.items ≡ parts_missing own s look))) where
    -- a list of the parts' missing variables is one of those of the source's tree
    lists_missing : ByNames look_up (λ look. ByTree s (λ t. IfOk result
        (λ list. map missing_variable list.items ≡ all_missing 0 t look)))
    lists_missing look names t spells =
        IfOk-weaker result _ _ (λ list is.
        is ∙ ap (λ (xs : List Part). parts_missing xs s look) same
        ∙ ap (filter_map lacked) (template.mean.same_steps look)
        ∙ ap (λ (u : Tree). all_missing 0 u look) (tree_unique s template.tree t template.spells spells))
        (lists look names)

    -- a property of each variable of the tree holds of each listed one
    each_missing : (P : variables.Variable → Type 0)
        → AllByRecursion P (variables_of 0 template.tree)
        → IfOk result (λ list. All (λ e. P (missing_variable e)) list.items)
    each_missing P each =
        let look = marks_of look_up in
        IfOk-weaker result _ _ (λ list is. each_mapped missing_variable P list.items
        (is ∙ ap (λ (xs : List Part). parts_missing xs s look) same
        ∙ ap (filter_map lacked) (template.mean.same_steps look))
        (missing_among P 0 template.tree look each))
        (lists look (marks_by_names look_up))

    -- so each listed name ends within the source, and begins and ends at character boundaries of a text
    pub missing_told :
        ByNames look_up (λ look. ByTree s (λ t. IfOk result
        (λ list. map missing_variable list.items ≡ all_missing 0 t look)))
        × IfOk result (λ list. All (λ e. (missing_range e).end ≤ length s) list.items)
        × (IsUtf8 s → IfOk result (λ list. All (λ e. IsRangeIn s (missing_range e)) list.items))
    missing_told = (
      lists_missing,
      each_missing (λ v. (name_range v).end ≤ length s) (variables_within s _ template.spells),
      λ is. each_missing (λ v. IsRangeIn s (name_range v)) (variables_in_text s _ is template.spells),
    )
