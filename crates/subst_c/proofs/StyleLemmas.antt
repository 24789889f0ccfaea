-- A text and its template have the same value, or miss the same variable.
use Rattle.std.proofs.Common.{◌≡◌, ◌≢◌, ◌==◌, ◌<◌, ◌≤◌, ℕ, zero, suc, Bool, true, false, if◌then◌else◌, List, [], ◌∷◌, length, map, Option, Some, None, IfSome, IsTrue, MatchOption, arith, get_or, option_and_then, option_map, Result, Ok, Err, IfOk, refl, sym, ap, ◌∙◌, subst}
use Rattle.std.proofs.lemmas.Option.{slice_get-get_or, slice_get-map, slice_get_read, slice_get_within}
use Rattle.std.proofs.lemmas.List.{length-map}
use Rattle.std.specs.Borrow.{Bor}
use Rattle.std.specs.Option.{option_copied}
use Rattle.std.proofs.lemmas.Str.{IsUtf8-nil}
use Rattle.std.specs.List.{AllByRecursion, slice_get}
use Rattle.std.specs.Str.{IsUtf8}
use Rattle.subst_foreign.specs.Grammar.{Grammar}
use Rattle.subst_foreign.specs.Foreign.{unplaced}
use Rattle.subst_foreign.specs.Question.{by_question, is_empty, is_missing, negated, value_of}
use Rattle.subst_foreign.specs.Reading.{IsListing, Listing, VariableAt, end_of, variable_of, without_place}
use Rattle.subst_foreign.specs.Template.{IsTemplate, renamed, seen_by, template_name_of, text_name}
use Rattle.subst_foreign.specs.Text.{Text, IsText, spelling, variables_of}
use Rattle.subst_foreign.specs.declared.forms.Forms.{Forms}
use Rattle.subst_foreign.specs.declared.forms.Forms.TheVariants as of
use Rattle.subst_foreign.specs.declared.forms.Missing.{Missing}
use Rattle.subst_foreign.specs.declared.forms.Missing.TheVariants as missing
use Rattle.subst_error.specs.Fault.{Fault, NoSuchVariable}
use Rattle.subst_language.specs.Language.Answer.{IsMissing as IsFault}
use Rattle.subst_language.proofs.Language.FaultLemmas.{exclusive}
use Rattle.subst_language.specs.Language.BadItem.{HasFault}
use Rattle.subst_language.specs.Language.LookUp.{LookUp, GivesTexts}
use Rattle.subst_language.specs.Language.NamesIn.{names_in}
use Rattle.subst_language.specs.Language.Sentence.{ByTree, IsSentence, Spells}
use Rattle.subst_language.specs.Language.Tree.{Tree}
use Rattle.subst_language.specs.Language.Value.{Bytes, Value, value, Missing as IsMissing}
use Rattle.subst_language.specs.Calls.Variables as calls
use Rattle.subst_language.specs.declared.variable.Variable.{Variable}
use Rattle.subst_foreign.specs.declared.variables.TextVariable.{TextVariable}
use Rattle.subst_language.specs.Language.Variables as tree
use Rattle.subst_language.specs.Language.Variables.{name_of}
use Rattle.subst_language.specs.Maps.{without_empty}
use Rattle.subst_c.proofs.TextLemmas.{TextsGiveTexts, source_is_text, values_are_texts}
use Rattle.subst_c.specs.Pairs.{pair_value}
use Rattle.subst_c.specs.Fault.{fault_number}
use Rattle.subst_c.specs.Style.{AreOf, HasIndex, HasVariable, IsUnset, forms_number, missing_number, names_number}
use Rattle.subst_c.specs.declared.style.Choice.{Choice}
use Rattle.subst_c.specs.declared.style.Choice.TheVariants as choice
use Rattle.subst_c.specs.declared.style.Choices.{Choices}
use Rattle.subst_c.specs.declared.style.StyleRecord.{StyleRecord}
use Rattle.subst_c.specs.Text.{are_texts}
use Rattle.subst_c.specs.declared.pairs.Pair.{Pair}

-- without its empty values, a look-up of texts is one too
nonempty_texts : (look : LookUp) → GivesTexts look → GivesTexts (without_empty look)
nonempty_texts look texts name x found = of (look name) refl found
  where
    kept : (y : List ℕ) (b : Bool) → (if b then None else Some y) ≡ Some x → y ≡ x
    kept y true same = absurd cc
    kept y false same = cc

    of : (o : Option (List ℕ)) → look name ≡ o
        → option_and_then (λ bytes. (if length bytes == 0 then None else Some bytes)) o ≡ Some x → IsUtf8 x
    of None is same = absurd cc
    of (Some y) is same = subst IsUtf8 (kept y (length y == 0) same) (texts name y is)

-- the answer to whether a value is missing is a text
negated_text : (o : Option (List ℕ)) (x : List ℕ) → negated o ≡ Some x → IsUtf8 x
negated_text (Some y) x same = absurd cc
negated_text None x same =
    let empty : [] ≡ x = cc in subst IsUtf8 empty (IsUtf8-nil)

-- the values and answers of a look-up of texts are texts
answers_texts : (look : LookUp) → GivesTexts look → GivesTexts (by_question look)
answers_texts look texts [] x found = nonempty_texts look texts [] x found
answers_texts look texts (b ∷ name) x found =
    of (b == value_of) (b == is_missing) (b == is_empty) found
  where
    of : (value missing empty : Bool) → (if value then look name
        else if missing then negated (look name)
        else if empty then negated (without_empty look name)
        else without_empty look (b ∷ name)) ≡ Some x → IsUtf8 x
    of true missing empty same = texts name x same
    of false true empty same = negated_text (look name) x same
    of false false true same = negated_text (without_empty look name) x same
    of false false false same = nonempty_texts look texts (b ∷ name) x same

-- templates see a look-up of texts as one
pub seen_texts : (forms : Forms) (look : LookUp) → GivesTexts look → GivesTexts (seen_by forms look)
seen_texts of.Own look texts = texts
seen_texts of.Envsubst look texts = texts
seen_texts of.Shell look texts = answers_texts look texts
seen_texts of.Common look texts = nonempty_texts look texts

-- the output of a text, through a template that is UTF-8, is UTF-8 if the text and the values are
pub gives_text : (law : TextsGiveTexts) (forms : Forms) (s source : List ℕ) (pairs : List Pair) (x : List ℕ)
    → are_texts s pairs ≡ true → (IsUtf8 s → IsUtf8 source) → IsSentence source
    → ByTree source (λ t. value 0 t (seen_by forms (pair_value pairs)) ≡ Bytes x) → IsUtf8 x
gives_text law forms s source pairs x are is_text (t, spells) gives =
    law source x 0 (seen_by forms (pair_value pairs)) (is_text (source_is_text s pairs are))
    (seen_texts forms (pair_value pairs) (values_are_texts s pairs are)) t spells (gives t spells)

-- a value with this fault is that of this missing variable
pub says_missing : (v : Value) (position : ℕ) (name : List ℕ) → IsFault v (NoSuchVariable position name)
    → v ≡ IsMissing position name
says_missing v position name (p, n, is, same) = cc (is, same)

-- a property of each item holds for the one at an index
pub each_at : {X : Type 0} (P : X → Type 0) (l : List X) (i : ℕ) (x : X) → AllByRecursion P l
    → slice_get l i ≡ Some x → P x
each_at P [] i x all found = absurd cc
each_at P (y ∷ l) zero x all found =
    let same : y ≡ x = cc in subst P same all.0
each_at P (y ∷ l) (suc i) x all found = each_at P l i x all.1 found

-- the laws of listed variables, which `laws::one_listing` states
abbrev pub ListsItems : Grammar → Type 0
ListsItems g = (text : Text) (listed : List VariableAt) → IsText g false text []
    → Listing g 0 0 (spelling text) listed → map without_place listed ≡ variables_of text

abbrev pub TellsNames : Grammar → Type 0
TellsNames g = (text : Text) → IsText g false text []
    → AllByRecursion (λ v. text_name g.forms (template_name_of g.forms v) ≡ v.name) (variables_of text)

-- the law of the names of a tree's variables, which `laws::missing_lists_are_whole` states
abbrev pub NamesVariables : Type 0
NamesVariables = (p : ℕ) (t : Tree) → map name_of (tree.variables_of p t) ≡ names_in t

-- the name that a template looks up at an index is that of the variable listed there, so the reported name is
-- the variable's
told_at : (g : Grammar) (unset : Missing) (s source : List ℕ) → ListsItems g → TellsNames g → NamesVariables
    → (template : IsTemplate g unset s source) (position : ℕ) (name : List ℕ) (v : VariableAt)
    → HasIndex g s source position name v → text_name g.forms name ≡ v.name
told_at g unset s source lists tells names template position name v at =
    let items = template.items in
    let (w, here, placed, named) = at.in_template template.tree template.spells in
    let of_items : map without_place at.listed ≡ variables_of items =
    lists items at.listed template.read (subst (λ z. Listing g 0 0 z at.listed) template.spelled at.lists) in
    let listed : slice_get (variables_of items) at.index ≡ Some (without_place v) =
    ap (λ l. slice_get l at.index) (sym of_items) ∙ slice_get-map without_place at.listed at.index
    ∙ ap (option_map without_place) at.here in
    let asks : slice_get (names_in template.tree) at.index ≡ Some (template_name_of g.forms (without_place v)) =
    ap (λ l. slice_get l at.index) template.names
    ∙ slice_get-map (template_name_of g.forms) (variables_of items) at.index
    ∙ ap (option_map (template_name_of g.forms)) listed in
    let named_so : slice_get (names_in template.tree) at.index ≡ Some w.name =
    ap (λ l. slice_get l at.index) (sym (names 0 template.tree))
    ∙ slice_get-map name_of (tree.variables_of 0 template.tree) at.index ∙ ap (option_map name_of) here in
    let same : name ≡ template_name_of g.forms (without_place v) = cc (named, named_so, asks) in
    ap (text_name g.forms) same
    ∙ each_at (λ u. text_name g.forms (template_name_of g.forms u) ≡ u.name) (variables_of items) at.index
    (without_place v) (tells items template.read) listed

-- the variable that is missing in a template is at its index in the text
pub unset_at : (g : Grammar) (unset : Missing) (s source : List ℕ) (look : LookUp) → ListsItems g → TellsNames g
    → NamesVariables → (template : IsTemplate g unset s source) (position : ℕ) (name : List ℕ) (v : VariableAt)
    → HasIndex g s source position name v
    → ByTree source (λ t. value 0 t (seen_by g.forms look) ≡ IsMissing position name) → IsUnset g unset s look v
unset_at g unset s source look lists tells names template position name v at is =
    let missing = is template.tree template.spells in
    record {
      template = source;
      is_template = template;
      position = position;
      name = name;
      missing = missing;
      at_index = at;
      says = sym (template.gives look) ∙ ap (λ v. renamed g.forms (unplaced v)) missing
          ∙ ap (λ n. Err n) (told_at g unset s source lists tells names template position name v at);
    }

-- a variable at an index lies in the text
pub ends_within : (g : Grammar) (s source : List ℕ) (position : ℕ) (name : List ℕ) (v : VariableAt)
    → ((listed : List VariableAt) → Listing g 0 0 s listed → AllByRecursion (λ v. end_of v ≤ length s) listed)
    → HasIndex g s source position name v → end_of v ≤ length s
ends_within g s source position name v within at =
    each_at (λ v. end_of v ≤ length s) at.listed at.index v (within at.listed at.lists) at.here

-- the index of the missing variable in its template is that of a variable in the text
pub has_index : (g : Grammar) (s template : List ℕ) (position : ℕ) (name : List ℕ) (listed : List Variable)
    (variables : List TextVariable) (i : ℕ) (d : Variable) (got : Option (Bor TextVariable))
    (P : Bor TextVariable → Type 0)
    → ByTree template (λ t. map calls.variable_of listed ≡ tree.variables_of 0 t) → IsListing g s variables
    → i < length listed → (get_or listed i d).position ≡ position → (get_or listed i d).name.now ≡ name
    → IfSome got (λ x. x.now ≡ get_or variables i x.now)
    → MatchOption got (length variables ≤ i) (λ x. (i < length variables) × P x)
    → IfSome (option_copied got) (λ v. HasIndex g s template position name (variable_of v))
has_index g s template position name listed variables i d None P are lists below placed named same within = tt
has_index g s template position name listed variables i d (Some x) P are lists below placed named same within =
    let here = slice_get_read variables (length variables) i x.now refl within.0 same in record {
      index = i;
      listed = map variable_of variables;
      lists = lists;
      here = slice_get-map variable_of variables i ∙ ap (option_map variable_of) here;
      in_template = λ t spells. (
        calls.variable_of (get_or listed i d),
        ap (λ l. slice_get l i) (sym (are t spells)) ∙ slice_get-map calls.variable_of listed i
            ∙ ap (option_map calls.variable_of) (slice_get-get_or listed i d below),
        placed,
        named,
      );
    }

-- the law that a template has as many variables as its text, which `laws::variables_are_in_one_order` states
abbrev pub AsMany : Grammar → Missing → Type 0
AsMany g unset = (s source : List ℕ) → IsTemplate g unset s source → (t : Tree) → Spells t source
    → (listed : List VariableAt) → Listing g 0 0 s listed → length (tree.variables_of 0 t) ≡ length listed

-- a variable of a template has one at its index in the text
pub is_found : (g : Grammar) (unset : Missing) (s template : List ℕ) (listed : List Variable)
    (variables : List TextVariable) (i : ℕ) (got : Option (Bor TextVariable)) (P : Bor TextVariable → Type 0)
    → AsMany g unset → ByTree template (λ t. map calls.variable_of listed ≡ tree.variables_of 0 t)
    → IsListing g s variables → i < length listed
    → MatchOption got (length variables ≤ i) (λ x. (i < length variables) × P x)
    → IsTemplate g unset s template → option_copied got ≢ None
is_found g unset s template listed variables i (Some x) P many are lists below within is none = absurd cc
is_found g unset s template listed variables i None P many are lists below within is none =
    let counted : length listed ≡ length variables =
    sym (length-map listed calls.variable_of) ∙ ap (λ l. length l) (are is.tree is.spells)
    ∙ many s template is is.tree is.spells (map variable_of variables) lists ∙ length-map variables variable_of
    in
    let fails : ⊥ = omega (arith, counted, below, within) in fails

-- the item at an index hasn't the property P, if a test says so
pub not_here : {X : Type 0} (P : X → Type 0) (l : List X) (i : ℕ) (d : X) (b : Bool) → i < length l → b ≡ false
    → (P (get_or l i d) → IsTrue b) → (v : X) → slice_get l i ≡ Some v → P v → ⊥
not_here P l i d b below is test v found has =
    let got = slice_get-get_or l i d below in
    let same : v ≡ get_or l i d = cc (got, found) in
    let yes = test (subst P same has) in absurd cc

-- a variable that isn't listed isn't one of the template
pub not_listed : (template : List ℕ) (listed : List Variable) (position : ℕ) (name : List ℕ)
    → ByTree template (λ t. map calls.variable_of listed ≡ tree.variables_of 0 t)
    → ((k : ℕ) → k < length listed → (v : Variable) → slice_get listed k ≡ Some v
    → (v.position ≡ position) × (v.name.now ≡ name) → ⊥)
    → HasVariable template position name → ⊥
not_listed template listed position name are none (t, spells, index, w, here, placed, named) =
    of (slice_get listed index) refl
    (sym (slice_get-map calls.variable_of listed index) ∙ ap (λ l. slice_get l index) (are t spells) ∙ here)
  where
    of : (o : Option Variable) → slice_get listed index ≡ o → option_map calls.variable_of o ≡ Some w → ⊥
    of None same mapped = absurd cc
    of (Some v) same mapped =
        let is : calls.variable_of v ≡ w = cc in
        none index (slice_get_within listed index v same) v same
        (ap (λ u. u.position) is ∙ placed, ap (λ u. u.name) is ∙ named)

-- a source with a fault is no template
pub no_template : (g : Grammar) (unset : Missing) (s template : List ℕ) (o : Option Fault) (k : ℕ)
    → IfSome o (HasFault 0 template) → option_map fault_number o ≡ Some k → IsTemplate g unset s template → ⊥
no_template g unset s template (Some f) k has some is = exclusive template is.tree 0 f is.spells has
no_template g unset s template None k has some is = absurd cc

-- a variable that is found at an index lies in the text
pub found_within : {E : Type 0} (g : Grammar) (s template : List ℕ) (position : ℕ) (name : List ℕ)
    (r : Result (Option TextVariable) E)
    → ((listed : List VariableAt) → Listing g 0 0 s listed → AllByRecursion (λ v. end_of v ≤ length s) listed)
    → IfOk r (λ found. IfSome found (λ v. HasIndex g s template position name (variable_of v)))
    → IfOk r (λ found. IfSome found (λ v. end_of (variable_of v) ≤ length s))
found_within g s template position name (Ok (Some v)) within at =
    ends_within g s template position name (variable_of v) within at
found_within g s template position name (Ok None) within at = tt
found_within g s template position name (Err e) within at = tt

-- each number is that of one choice
same_forms : (a b : Forms) → forms_number a ≡ forms_number b → a ≡ b
same_forms of.Own of.Own same = refl
same_forms of.Envsubst of.Envsubst same = refl
same_forms of.Shell of.Shell same = refl
same_forms of.Common of.Common same = refl
same_forms a b same = absurd cc

same_names : (a b : Choice) → names_number a ≡ names_number b → a ≡ b
same_names choice.All choice.All same = refl
same_names choice.Only choice.Only same = refl
same_names choice.Known choice.Known same = refl
same_names a b same = absurd cc

same_missing : (a b : Missing) → missing_number a ≡ missing_number b → a ≡ b
same_missing missing.Fault missing.Fault same = refl
same_missing missing.Nothing missing.Nothing same = refl
same_missing a b same = absurd cc

-- a style has the numbers of one set of choices
pub choices_unique : (style : StyleRecord) (a b : Choices) → AreOf style a → AreOf style b → a ≡ b
choices_unique style a b one other =
    let forms = same_forms a.forms b.forms (sym one.0 ∙ other.0) in
    let names = same_names a.names b.names (sym one.1 ∙ other.1) in
    let unset = same_missing a.missing b.missing (sym one.2 ∙ other.2) in
    let make : Forms → Choice → Missing → Choices = λ f n m. record { forms = f; names = n; missing = m } in
    ap (λ f. make f a.names a.missing) forms ∙ ap (λ n. make b.forms n a.missing) names
    ∙ ap (λ m. make b.forms b.names m) unset
