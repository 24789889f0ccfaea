-- The variables of a text by the positions of those of its template.
use Rattle.std.proofs.Common.{◌≡◌, ◌≢◌, ◌==◌, ◌∙◌, ◌++◌, ◌<◌, Bool, true, false, cond, ℕ, List, [], ◌∷◌, Option, Some, None, Result, Ok, Err, IfOk, if◌then◌else◌, map, refl, sym, ap, subst, arith}
use Rattle.std.proofs.lemmas.Bool.Decides.{nat_tests}
use Rattle.std.proofs.lemmas.Str.Pattern.{strip_prefix_char}
use Rattle.std.specs.List.{zip}
use Rattle.std.proofs.lemmas.Simd.{map-map}
use Rattle.std.specs.HashMap.{HashMap}
use Rattle.std.specs.Option.{option_map, option_or}
use Rattle.std.specs.Str.Pattern.{FindsCharPrefix}
use Rattle.subst.specs.Question.{value_of, is_missing, is_empty}
use Rattle.subst.specs.Grammar.{Grammar}
use Rattle.subst.specs.Language.Variables.{variables_of}
use Rattle.subst.specs.Language.Variables as tree
use Rattle.subst.specs.Reading.{variable_of, IsListing, VariableAt}
use Rattle.subst_expander.specs.Fill.{looked_up_name}
use Rattle.subst_expander.specs.MapBack.{last_at, AreCounterparts, ArePaired, IsMappedAt, IsMappedIn, counterpart_at}
use Rattle.subst_foreign.specs.declared.forms.Forms.TheVariants.{Shell}
use Rattle.subst_expander.specs.declared.fault.Fault.{Fault}
use Rattle.subst_foreign.specs.declared.variables.TextVariable.{TextVariable}
use Rattle.subst_language.specs.Calls.Clauses.{AreVariables}
use Rattle.subst_language.specs.Calls.Variables as template
use Rattle.subst_language.specs.declared.variable.Variable.{Variable}

-- a name that begins with none of the three digits asks no question
pub no_question : (name : List ℕ) → FindsCharPrefix value_of name None → FindsCharPrefix is_missing name None
    → FindsCharPrefix is_empty name None → looked_up_name (Some Shell) name ≡ name
no_question [] no_value no_missing no_empty = refl
no_question (b ∷ name) no_value no_missing no_empty = rw (
  differs value_of (omega arith) no_value,
  differs is_missing (omega arith) no_missing,
  differs is_empty (omega arith) no_empty,
) refl
  where
    differs : (digit : ℕ) → digit < 128 → FindsCharPrefix digit (b ∷ name) None → (b == digit) ≡ false
    differs digit low none =
        let other : b ≢ digit =
        λ same. strip_prefix_char digit (b ∷ name) None none low name (ap (λ x. x ∷ name) same) in
        grind (arith, nat_tests, other)

-- one more pair, at the end
pub last_at-push : (pairs : List (ℕ × VariableAt)) (pair : ℕ × VariableAt) (at : ℕ)
    → last_at (pairs ++ pair ∷ []) at ≡ option_or (if pair.0 == at then Some pair.1 else None) (last_at pairs at)
last_at-push [] pair at = each (pair.0 == at)
  where
    each : (here : Bool) → option_or None (if here then Some pair.1 else None)
        ≡ option_or (if here then Some pair.1 else None) None
    each true = refl
    each false = refl
last_at-push (first ∷ pairs) pair at =
    ap (λ (o : Option VariableAt). option_or o (if first.0 == at then Some first.1 else None))
    (last_at-push pairs pair at) ∙ each (pair.0 == at)
  where
    each : (here : Bool)
        → option_or (option_or (if here then Some pair.1 else None) (last_at pairs at))
        (if first.0 == at then Some first.1 else None)
        ≡ option_or (if here then Some pair.1 else None)
        (option_or (last_at pairs at) (if first.0 == at then Some first.1 else None))
    each true = refl
    each false = refl

-- functions applied to the elements of two lists, in pairs
pub zip-map : {A B C D : Type 0} (f : A → C) (g : B → D) (x : List A) (y : List B)
    → zip (map f x) (map g y) ≡ map (λ pair. (f pair.0, g pair.1)) (zip x y)
zip-map f g [] y = refl
zip-map f g (a ∷ x) [] = refl
zip-map f g (a ∷ x) (b ∷ y) = ap (λ z. (f a, g b) ∷ z) (zip-map f g x y)

-- the variable of a map at a position once a pair is inserted
pub counterpart_put : (here : Bool) (o : Option TextVariable) (v : TextVariable) (rest : Option VariableAt)
    → option_map variable_of o ≡ rest
    → option_map variable_of (cond here (Some v) o)
    ≡ option_or (if here then Some (variable_of v) else None) rest
counterpart_put true o v rest same = refl
counterpart_put false o v rest same = same

-- the pairs of positions and variables
pub pairs_of : (list : List Variable) (listed : List TextVariable) (variables : List tree.Variable)
    → map template.variable_of list ≡ variables
    → map (λ pair. (pair.0.position, variable_of pair.1)) (zip list listed)
    ≡ zip (map (λ v. v.position) variables) (map variable_of listed)
pairs_of list listed variables same =
    sym (zip-map (λ v. v.position) variable_of list listed)
    ∙ ap (λ (positions : List ℕ). zip positions (map variable_of listed))
    (sym (map-map (λ v. v.position) template.variable_of list) ∙ ap (map (λ v. v.position)) same)

-- the variables of a template and of its text are paired
pub counterparts_are : {S E : Type 0} (g : Grammar) (s source : List ℕ) (list : List Variable)
    (listed : List TextVariable) (result : Result (HashMap ℕ TextVariable S) E) → AreVariables source list
    → IsListing g s listed → IfOk result (ArePaired (zip list listed))
    → IfOk result (AreCounterparts g s source)
counterparts_are g s source list listed (Ok counterparts) are is paired = λ t spells. (
  map variable_of listed,
  is,
  λ at. paired at ∙ ap (λ pairs. last_at pairs at) (pairs_of list listed (variables_of 0 t) (are t spells)),
)
counterparts_are g s source list listed (Err e) are is paired = tt

-- a fault that is mapped to its counterpart is mapped back to the text
pub mapped_in : {S : Type 0} (g : Grammar) (s source : List ℕ) (counterparts : HashMap ℕ TextVariable S)
    (x it : Fault)
    → AreCounterparts g s source counterparts → IsMappedAt g.forms (counterpart_at counterparts x.range.start) x it
    → IsMappedIn g s source x it
mapped_in g s source counterparts x it are mapped = λ t spells.
    let (variables, listing, same) = are t spells in
    (variables, listing, subst (λ found. IsMappedAt g.forms found x it) (same x.range.start) mapped)
