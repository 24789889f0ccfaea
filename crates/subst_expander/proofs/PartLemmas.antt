-- Lemmas on the faults of a part, and on names whose values aren't UTF-8.
use Rattle.std.proofs.Common.{◌≡◌, ◌≢◌, ◌==◌, ℕ, Bool, false, true, true≢false, Option, Some, None, IfSome, IsSomeAnd, List, [], ◌∷◌, ◌++◌, append-nil, length, map, get_or, inl, inr, refl, sym, ap, subst, ◌∙◌, arith, All, IsPermutation}
use Rattle.std.proofs.lemmas.Bool.{eqb-true}
use Rattle.std.proofs.lemmas.List.{length-map, nil_from_length}
use Rattle.std.proofs.lemmas.List.Elements.{All-from_recursion, All-map, All-nil, All-weaker}
use Rattle.std.proofs.lemmas.List.Sorted.{IsPermutation-refl, length_permutation}
use Rattle.std.specs.List.{AllByRecursion, AllZip}
use Rattle.std.specs.declared.ops.Range.{Range}
use Rattle.subst.specs.ErrorFault.{error_fault}
use Rattle.subst.specs.Errors.{Error}
use Rattle.subst.specs.Grammar.{Grammar}
use Rattle.subst.specs.Reading.{IsReading, IsRefusalOf}
use Rattle.subst_foreign.specs.declared.refused.FormAt.{FormAt}
use Rattle.subst_foreign.specs.declared.refused.TextError.TheVariants as errors
use Rattle.subst_language.proofs.Language.FaultLemmas.{exclusive}
use Rattle.subst_language.proofs.Language.MissingLemmas.{missing_among}
use Rattle.subst_language.proofs.Language.OneTreeLemmas.{tree_unique}
use Rattle.subst_language.proofs.Language.VariablesLemmas.{none_missing, variable_names}
use Rattle.subst_language.specs.Language.BadItem.{HasFault}
use Rattle.subst_language.specs.Language.NamesIn.{names_in}
use Rattle.subst.specs.Fault as faults
use Rattle.subst.specs.Language.Answer.{Answers, Gives}
use Rattle.subst.specs.Language.LookUp.{LookUp}
use Rattle.subst_filter_lib.specs.Arguments.{value_under}
use Rattle.subst_language.proofs.Language.NamesInLemmas.{value_same}
use Rattle.subst_language.specs.Language.Sentence.{Spells}
use Rattle.subst_language.specs.Language.Tree.{Tree}
use Rattle.subst_language.specs.Language.Variables as tree
use Rattle.subst_language.specs.Language.Variables.{name_of, all_missing, variables_of}
use Rattle.subst.specs.Range.{range_of}
use Rattle.subst.specs.Question.{by_question, negated, value_of, is_missing, is_empty}
use Rattle.subst_foreign.specs.declared.forms.Forms.{Forms}
use Rattle.subst_foreign.specs.declared.forms.Forms.TheVariants as of
use Rattle.subst_expander.proofs.ListLemmas.{none_zipped}
use Rattle.subst_expander.specs.Faults.{has_unreadable_value, AreFaultsBy, AreForms, AreMissing, AreUnreadable, IsForm}
use Rattle.subst_expander.specs.Fill.{looked_up_name, look_for, AreReadable, GivesBy}
use Rattle.subst_expander.specs.Layers.{has_unreadable, is_unreadable, look_up_in, AreVariablesOf, Entry, IsUnreadable}
use Rattle.subst_expander.specs.ValuesFaults.{HasOne}
use Rattle.subst_expander.specs.declared.fault.Cause.TheVariants.{Refused}
use Rattle.subst_expander.specs.declared.fault.Fault.{Fault}
use Rattle.subst_expander.specs.declared.layers.Variables.{Variables}

-- if no elements are counted, there are none
pub none_counted : {X : Type 0} (xs : List X) (count : ℕ) → count ≡ length xs → (count == 0) ≡ true → xs ≡ []
none_counted xs count is none = nil_from_length xs (omega (arith, is, eqb-true count 0 none))

-- the value of a template's name, by two look-ups that agree on the name that is looked up
same_look : (forms : Option Forms) (look other : LookUp) (name : List ℕ)
    → look (looked_up_name forms name) ≡ other (looked_up_name forms name)
    → look_for forms look name ≡ look_for forms other name
same_look None look other name same = same
same_look (Some of.Own) look other name same = same
same_look (Some of.Envsubst) look other name same = same
same_look (Some of.Common) look other name same = rw same refl
same_look (Some of.Shell) look other [] same = rw same refl
same_look (Some of.Shell) look other (b ∷ name) same =
    each (b == value_of) (b == is_missing) (b == is_empty) refl refl refl
  where
    each : (one two three : Bool) → (b == value_of) ≡ one → (b == is_missing) ≡ two → (b == is_empty) ≡ three
        → by_question look (b ∷ name) ≡ by_question other (b ∷ name)
    each true two three first second third = let known = rw first at same in rw first known
    each false true three first second third =
        let known = rw (first, second) at same in rw (first, second) (ap negated known)
    each false false true first second third = let known = rw (first, second, third) at same in
        rw (first, second, third, known) refl
    each false false false first second third = let known = rw (first, second, third) at same in
        rw (first, second, third, known) refl

module _ (variables : Variables) (entries : List Entry) (are : AreVariablesOf variables entries) where
  -- the variables state for each name whether its value isn't UTF-8
  pub unreadable_same : (name : List ℕ) (result : Bool) → result ≡ has_unreadable variables name
      → is_unreadable entries name ≡ result
  unreadable_same name result is = sym (is ∙ ap (λ (f : List ℕ → Bool). f name) are.unreadable)

  -- a name has no value that isn't UTF-8 if the variables state so
  pub readable_name : (name : List ℕ) → has_unreadable variables name ≡ false → ¬ (IsUnreadable entries name)
  readable_name name is unreadable = let known = unreadable_same name false (sym is) in absurd cc

  -- if the variables have no value that isn't UTF-8, no variable of a template has a fault
  pub none_unreadable : ((name : List ℕ) → has_unreadable variables name ≡ false) → (forms : Option Forms)
      (list : List tree.Variable) → AreUnreadable forms entries list []
  none_unreadable none forms [] = tt
  none_unreadable none forms (v ∷ list) =
      rw (unreadable_same (looked_up_name forms v.name) false (sym (none _))) (none_unreadable none forms list)

  -- the output of a template by the variables is its output by each look-up that agrees with the entries
  pub output_under : (forms : Option Forms) (s x : List ℕ) → AreReadable forms entries s
      → Answers s (look_for forms (value_under variables.values)) (Gives x) → GivesBy forms entries s x
  output_under forms s x readable (t, spells, gives) = (
    readable,
    λ look agrees. (
      t,
      spells,
      value_same 0 t (look_for forms look) (look_for forms (value_under variables.values))
          (λ k d below. same_look forms look (value_under variables.values) (get_or (names_in t) k d)
          (agrees _ (readable t spells k d below)
          ∙ sym (ap (λ (f : LookUp). f (looked_up_name forms (get_or (names_in t) k d))) are.values))) ∙ gives,
    ),
  )

-- if a tree of a template has no name, no value of a name isn't UTF-8
pub readable_nameless : (forms : Option Forms) (entries : List Entry) (s : List ℕ) (t : Tree) → Spells t s
    → names_in t ≡ [] → AreReadable forms entries s
readable_nameless forms entries s t spells none u same =
    subst (All (λ name. ¬ (IsUnreadable entries (looked_up_name forms name))))
    (sym (ap names_in (tree_unique s u t same spells) ∙ none)) (All-nil _)

-- a list to which an item was appended isn't empty
pub pushed : {X : Type 0} (xs : List X) (x : X) → ¬ (xs ++ x ∷ [] ≡ [])
pushed [] x none = absurd cc
pushed (y ∷ xs) x none = absurd cc

-- a source with a fault is no template
pub no_tree : (s : List ℕ) (fault : Option faults.Fault) → IfSome fault (HasFault 0 s) → fault ≢ None
    → (t : Tree) → Spells t s → ⊥
no_tree s None has some t spells = some refl
no_tree s (Some f) has some t spells = exclusive s t 0 f spells has

-- if some variables have no faults, their values are UTF-8
all_readable : (forms : Option Forms) (entries : List Entry) (list : List tree.Variable)
    → AreUnreadable forms entries list []
    → AllByRecursion (λ v. has_unreadable_value forms entries v ≡ false) list
all_readable forms entries [] are = tt
all_readable forms entries (v ∷ list) are =
    each (has_unreadable_value forms entries v) refl (all_readable forms entries list)
  where
    each : (unreadable : Bool) → has_unreadable_value forms entries v ≡ unreadable
        → (AreUnreadable forms entries list []
        → AllByRecursion (λ v. has_unreadable_value forms entries v ≡ false) list)
        → AllByRecursion (λ v. has_unreadable_value forms entries v ≡ false) (v ∷ list)
    each true is rest = absurd (rw is at are)
    each false is rest = (is, rest (rw is at are))

-- if missing variables whose values are UTF-8 have no faults, there are none
none_missing_told : (forms : Option Forms) (entries : List Entry) (list : List tree.Variable)
    → AllByRecursion (λ v. has_unreadable_value forms entries v ≡ false) list
    → AreMissing forms entries list [] → list ≡ []
none_missing_told forms entries [] readable are = refl
none_missing_told forms entries (v ∷ list) readable are = absurd (rw readable.0 at are)

-- if a template has no faults, no variable is missing
none_told : (forms : Option Forms) (entries : List Entry) (t : Tree) (look : LookUp)
    (unreadable missing : List Fault) → AreUnreadable forms entries (variables_of 0 t) unreadable
    → AreMissing forms entries (all_missing 0 t look) missing → unreadable ++ missing ≡ []
    → all_missing 0 t look ≡ []
none_told forms entries t look [] [] are all none =
    none_missing_told forms entries (all_missing 0 t look)
    (missing_among (λ v. has_unreadable_value forms entries v ≡ false) 0 t look
    (all_readable forms entries (variables_of 0 t) are)) all
none_told forms entries t look [] (it ∷ missing) are all none = absurd cc
none_told forms entries t look (it ∷ unreadable) missing are all none = absurd cc

-- the value of an option for which a property holds
some_and : {X : Type 0} (o : Option X) (P : X → Type 0) → IsSomeAnd o P → (x : X) × (o ≡ Some x) × P x
some_and None P is = absurd is
some_and (Some x) P is = (x, refl, is)

-- The faults of a template.
module _ (forms : Option Forms) (entries : List Entry) (s : List ℕ) where
  abbrev look : LookUp
  look = look_for forms (look_up_in entries)

  abbrev IsEachUnreadable : List Fault → Type 0
  IsEachUnreadable unreadable =
      (t : Tree) → Spells t s → AreUnreadable forms entries (variables_of 0 t) unreadable

  -- if there are none of values that aren't UTF-8, all values are
  pub readable_without_faults : (unreadable : List Fault) → IsEachUnreadable unreadable → unreadable ≡ []
      → AreReadable forms entries s
  readable_without_faults unreadable each none t spells =
      subst (All (λ name. ¬ (IsUnreadable entries (looked_up_name forms name)))) (variable_names 0 t)
      (All-map (λ name. ¬ (IsUnreadable entries (looked_up_name forms name))) name_of (variables_of 0 t)
      (All-weaker (λ v. has_unreadable_value forms entries v ≡ false)
      (λ v. ¬ (IsUnreadable entries (looked_up_name forms v.name)))
      (λ v readable unreadable. true≢false (sym unreadable ∙ readable)) (variables_of 0 t)
      (All-from_recursion (λ v. has_unreadable_value forms entries v ≡ false) (variables_of 0 t)
      (all_readable forms entries (variables_of 0 t) (rw none at (each t spells))))))

  -- if the template has an output, they are those of values that aren't UTF-8
  pub faults_of_output : (x : List ℕ) (unreadable : List Fault) → Answers s look (Gives x)
      → IsEachUnreadable unreadable → AreFaultsBy forms entries s unreadable
  faults_of_output x unreadable (t, spells, gives) each = inr (
    t,
    spells,
    (
      unreadable,
      [],
      each t spells,
      rw ((none_missing 0 t look).1 (x, gives)) tt,
      rw append-nil (IsPermutation-refl unreadable),
    ),
  )

  -- a source that is no template has only the library's fault
  pub fault_of_refusal : (range : Range ℕ) (e : Error) (faults : List Fault)
      → IsSomeAnd (error_fault e) (λ f. HasFault 0 s f × (range ≡ range_of (Some f)))
      → HasOne (λ it. (it.cause ≡ Refused e) × (it.range ≡ range)) faults
      → (¬ (faults ≡ [])) × AreFaultsBy forms entries s faults
  fault_of_refusal range e faults refusal (it, is, path, (cause, at)) =
      let (f, same, (fault, in_source)) = some_and (error_fault e) _ refusal in (
        λ none. let known = is in absurd (cc),
        inl (f, it, fault, (e, cause, same, at ∙ in_source, path), is),
      )

  -- if variables are missing, there are those of values that aren't UTF-8, and of other missing variables
  pub faults_of_missing : {X : Type 0} (view : X → tree.Variable) (list : List X) (unreadable faults : List Fault)
      → (¬ (list ≡ [])) × ((t : Tree) × Spells t s × (map view list ≡ all_missing 0 t look))
      → IsEachUnreadable unreadable
      → (missing : List Fault) × AreMissing forms entries (map view list) missing
      × IsPermutation (unreadable ++ missing) faults
      → (¬ (faults ≡ [])) × AreFaultsBy forms entries s faults
  faults_of_missing view list unreadable faults (some, (t, spells, same)) each (missing, are, order) =
      let all = subst (λ list. AreMissing forms entries list missing) same are in (
        λ none. some (nil_from_length list (sym (length-map list view) ∙ ap length (same
            ∙ none_told forms entries t look unreadable missing (each t spells) all (nil_from_length _
            (sym (length_permutation (unreadable ++ missing) faults order) ∙ ap length none))))),
        inr (t, spells, (unreadable, missing, each t spells, all, order)),
      )

-- the faults of a text's refused forms, of which there is a first one
pub forms_stated : (g : Grammar) (s : List ℕ) (first : FormAt) (forms : List FormAt) (faults : List Fault)
    → ((one other : List FormAt) → IsReading g s one → IsReading g s other → one ≡ other)
    → IsRefusalOf g s (errors.Refused first) → IsReading g s forms → AllZip IsForm forms faults
    → (¬ (faults ≡ [])) × AreForms g s faults
forms_stated g s first forms faults unique (others, reading) all are = (
  λ none. let same = unique forms (first ∷ others) all reading in
      let none_left = none_zipped IsForm forms faults are none in absurd (cc),
  (forms, all, are),
)
