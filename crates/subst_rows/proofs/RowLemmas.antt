-- The values of a template's names in a row, and the look-up of a row.
use denote.Ref.{Bor}
use borrow.Author.Count.{below_more}
use Rattle.std.proofs.Common.{◌≡◌, ℕ, ◌+◌, ◌<◌, Bool, true, false, Option, Some, None, List, [], ◌∷◌, ◌++◌, map, length, refl, sym, ap, ◌∙◌, subst, arith}
use Rattle.std.proofs.Math.Path.{fun_ext}
use Rattle.std.proofs.lemmas.List.{length-map, map-append}
use Rattle.std.proofs.lemmas.List.Elements.{All-from_recursion}
use Rattle.std.proofs.lemmas.Option.{slice_get-map, slice_get_within}
use Rattle.std.specs.List.{AllByRecursion}
use Rattle.std.specs.Option.{option_and_then, option_map, option_or}
use Rattle.std.specs.Prelude.{IfSome, is_some, slice_get, slice_index_or, if◌then◌else◌}
use Rattle.subst_error.specs.Fault.{Fault}
use Rattle.subst_language.specs.Language.Answer.{IsMissing}
use Rattle.subst_language.specs.Language.LookUp.{LookUp}
use Rattle.subst_language.specs.Language.Tree.{Tree}
use Rattle.subst_language.specs.Language.Value.{Value, value}
use Rattle.subst_language.specs.Language.Variables.{Variable, name_of, variables_of}
use Rattle.subst_language.proofs.Language.NamesInLemmas.{value_same}
use Rattle.subst_language.proofs.Language.VariablesLemmas.{variable_names}
use Rattle.subst_indexed.specs.Expansion.{Values}
use Rattle.subst_indexed.specs.Numbering.{FirstUse, first_uses, look_by_number, look_of, names_of, number_of, with_use, with_variables}
use Rattle.subst_indexed.specs.Slot.{values_of}
use Rattle.subst_indexed.proofs.DistinctLemmas.{name_at}
use Rattle.subst_indexed.proofs.NumberingLemmas.{number_kept, number_of-new}
use Rattle.subst_rows.proofs.ListLemmas.{slice_get-before, slice_get-last}
use Rattle.subst_rows.specs.Columns.{columns_in, names_at}
use Rattle.subst_rows.specs.Row.{IsLookOf, cell_look, column_at, given_cell, given_or_none, kept_cell, look_in_row, row_look, value_in}
use Rattle.subst_rows.specs.declared.row.Sources.{Sources}

-- the bytes of a value
abbrev seen : Option (Bor (List ℕ)) → Option (List ℕ)
seen value = option_map (λ bytes. bytes.now) value

-- one more value
pub values_more : (f : Values) (list new : List (Option (Bor (List ℕ)))) (last : Option (Bor (List ℕ))) (n : ℕ)
    → new ≡ list ++ last ∷ [] → length list ≡ n → seen last ≡ f n
    → ((number : ℕ) → number < n → values_of list number ≡ f number)
    → (number : ℕ) → number < n + 1 → values_of new number ≡ f number
values_more f list new last n is counted found before =
    below_more (λ number. values_of new number ≡ f number) n
    (λ number below. ap (λ all. values_of all number) is
    ∙ ap (option_and_then seen) (slice_get-before list last number (omega arith)) ∙ before number below)
    (ap (λ all. values_of all n) is ∙ ap (option_and_then seen) (slice_get-last list last n counted) ∙ found)

module _ (sources : Sources) (head names : List (List ℕ)) (cells : ℕ → Option (List ℕ)) (fixed fallback : LookUp)
    (bound : sources.columns.now ≡ columns_in head names) where
  -- the column of a name
  column_of_name : (number : ℕ) (name : List ℕ) → slice_get names number ≡ Some name
      → column_at sources.columns.now number ≡ number_of head name
  column_of_name number name is =
      ap (option_and_then (λ column. column))
      (ap (λ columns. slice_get columns number) bound ∙ slice_get-map (number_of head) names number
      ∙ ap (option_map (number_of head)) is)

  -- the values by number are those of the row's look-up
  pub row_values : IsLookOf names (values_of sources.fixed.now) fixed
      → IsLookOf names (values_of sources.fallback.now) fallback → (values : Values)
      → ((number : ℕ) → number < length names → values number ≡ value_in sources cells number)
      → IsLookOf names values (row_look head (given_cell sources.no_empty cells) fixed fallback)
  row_values over under values are number name is =
      are number (slice_get_within names number name is)
      ∙ ap (λ value. option_or value
      (option_or (kept_cell sources cells number) (values_of sources.fallback.now number)))
      (over number name is)
      ∙ ap (λ value. option_or (fixed name) (option_or (kept_cell sources cells number) value))
      (under number name is)
      ∙ ap (λ column. option_or (fixed name)
      (option_or (option_and_then (given_cell sources.no_empty cells) column) (fallback name)))
      (column_of_name number name is)

-- a name has a number
abbrev pub HasNumber : List (List ℕ) → List ℕ → Type 0
HasNumber names name = (number : ℕ) × (number_of names name ≡ Some number)

-- names keep their numbers, and that of one more use has one
kept_with : (uses : List FirstUse) (it : FirstUse) (name : List ℕ) → HasNumber (names_of uses) name
    → HasNumber (names_of (with_use uses it)) name
kept_with uses it name (number, is) = (number, of (is_some (number_of (names_of uses) it.name)))
  where
    of : (known : Bool) → number_of (names_of (if known then uses else uses ++ it ∷ [])) name ≡ Some number
    of true = is
    of false =
        ap (λ all. number_of all name) (map-append (λ one. one.name) uses (it ∷ []))
        ∙ number_kept (names_of uses) (it.name ∷ []) name number is

has_with : (uses : List FirstUse) (it : FirstUse) → HasNumber (names_of (with_use uses it)) it.name
has_with uses it = of (number_of (names_of uses) it.name) refl
  where
    of : (found : Option ℕ) → number_of (names_of uses) it.name ≡ found
        → HasNumber (names_of (if is_some found then uses else uses ++ it ∷ [])) it.name
    of (Some number) is = (number, is)
    of None none = (
      length (names_of uses),
      ap (λ all. number_of all it.name) (map-append (λ one. one.name) uses (it ∷ []))
          ∙ number_of-new (names_of uses) it.name none,
    )

-- the first use of a variable, if it is one
abbrev use_at : Variable → FirstUse
use_at variable = record { position = variable.position; name = variable.name }

kept_with_all : (uses : List FirstUse) (more : List Variable) (name : List ℕ) → HasNumber (names_of uses) name
    → HasNumber (names_of (with_variables uses more)) name
kept_with_all uses [] name has = has
kept_with_all uses (variable ∷ more) name has =
    kept_with_all (with_use uses (use_at variable)) more name (kept_with uses (use_at variable) name has)

-- each variable's name has a number
has_with_all : (uses : List FirstUse) (more : List Variable)
    → AllByRecursion (HasNumber (names_of (with_variables uses more))) (map name_of more)
has_with_all uses [] = tt
has_with_all uses (variable ∷ more) = (
  kept_with_all (with_use uses (use_at variable)) more variable.name (has_with uses (use_at variable)),
  has_with_all (with_use uses (use_at variable)) more,
)

-- values by number are those of a look-up on a name with a number
same_at : (names : List (List ℕ)) (values : Values) (look : LookUp) (name : List ℕ) → IsLookOf names values look
    → HasNumber names name → look_of names values name ≡ look name
same_at names values look name are (number, is) =
    ap (option_and_then values) is ∙ are number name (name_at names name number is)

-- a tree has one value under a look-up and under values by number that agree with it
pub value_by_number : (t : Tree) (values : Values) (look : LookUp) → IsLookOf (names_at t) values look
    → value 0 t (look_by_number t values) ≡ value 0 t look
value_by_number t values look are =
    let numbered = All-from_recursion (HasNumber (names_at t)) (map name_of (variables_of 0 t))
    (has_with_all [] (variables_of 0 t)) in
    value_same 0 t (look_by_number t values) look
    (λ k d below. same_at (names_at t) values look _ are
    (subst (λ ns. HasNumber (names_at t) (slice_index_or ns k d)) (variable_names 0 t)
    (numbered k d (omega (arith, ap length (variable_names 0 t))))))

-- a tree has one value under the look-up of a row and under the row's values by number
pub row_value : (t : Tree) (sources : Sources) (head : List (List ℕ)) (cells : ℕ → Option (List ℕ))
    (fixed fallback : LookUp) (count : ℕ) (values : Values) → count ≡ length (first_uses (variables_of 0 t))
    → sources.columns.now ≡ columns_in head (names_at t)
    → IsLookOf (names_at t) (values_of sources.fixed.now) fixed
    → IsLookOf (names_at t) (values_of sources.fallback.now) fallback
    → ((number : ℕ) → number < count → values number ≡ value_in sources cells number)
    → value 0 t (look_by_number t values)
    ≡ value 0 t (row_look head (given_cell sources.no_empty cells) fixed fallback)
row_value t sources head cells fixed fallback count values counted bound over under are =
    let named = length-map (first_uses (variables_of 0 t)) (λ it. it.name) in
    value_by_number t values (row_look head (given_cell sources.no_empty cells) fixed fallback)
    (row_values sources head (names_at t) cells fixed fallback bound over under values
    (λ number below. are number (omega (arith, counted, named))))

-- a missing variable of a value is one of the same value, as the same fault
pub same_missing : (told stopped : Option Fault) (v w : Value) → told ≡ stopped → v ≡ w
    → IfSome stopped (IsMissing v) → IfSome told (IsMissing w)
same_missing told stopped v w same is missing =
    let P : Option Fault → Type 0 = λ f. IfSome f (IsMissing w) in
    let Q : Value → Type 0 = λ u. IfSome stopped (IsMissing u) in
    subst P (sym same) (subst Q is missing)

-- the look-up of a row's cells is that in the row's look-up
pub row_look-in_row : (no_empty : Bool) (head : List (List ℕ)) (cells : ℕ → Option (List ℕ))
    (fixed fallback : LookUp)
    → row_look head (given_cell no_empty cells) fixed fallback
    ≡ look_in_row no_empty (cell_look head cells) fixed fallback
row_look-in_row no_empty head cells fixed fallback =
    fun_ext (λ name. ap (λ cell. option_or (fixed name) (option_or cell (fallback name)))
    (kept (number_of head name)))
  where
    kept : (column : Option ℕ) → option_and_then (given_cell no_empty cells) column
        ≡ given_or_none no_empty (option_and_then cells column)
    kept (Some index) = refl
    kept None = refl
