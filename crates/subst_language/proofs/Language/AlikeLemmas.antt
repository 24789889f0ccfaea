-- The missing variable depends only on the names for which a look-up has values.
use Rattle.std.proofs.Common.{rules, ◌≡◌, ℕ, List, ◌∷◌, Option, Some, None, IfSome, is_some, refl, sym, ◌∙◌}
use Rattle.std.specs.List.{filter_map}
use Rattle.std.specs.Option.{option_map}
use Rattle.subst_error.specs.Fault.{Fault}
use Rattle.subst_language.specs.Language.Answer.{IsMissing}
use Rattle.subst_language.specs.Language.Steps.{Step, steps_of}
use Rattle.subst_language.specs.Language.Tree.{Tree}
use Rattle.subst_language.specs.Language.Value.{Value, Bytes, Missing, value}
use Rattle.subst_language.specs.Language.Variables.{Variable, required, lacked}
use Rattle.subst_language.specs.Calls.VariableMap.{look_up_of, ByNames}
use Rattle.subst_language.proofs.Language.MissingLemmas.{missing_same}
use Rattle.subst_language.proofs.Language.StepsLemmas.{Tells, value_tells}
use Rattle.subst_language.proofs.Language.VariablesLemmas.{missing_first}

-- the first of all missing variables is the one that the value misses
missing_of_first : (steps : List Step) (v : Value) (position : ℕ) (name : List ℕ) (more : List Variable)
    → Tells steps v → filter_map lacked steps ≡ required position name ∷ more → v ≡ Missing position name
missing_of_first steps (Bytes x) position name more tells is = let none = tells.2 in absurd cc
missing_of_first steps (Missing q n) position name more (rest, first) is = search (rules, required)

-- a value is found if and only if one was before its bytes were read
pub found_as_read : {Seen : Type 0} (bytes : Seen → List ℕ) (o : Option Seen)
    → is_some (option_map bytes o) ≡ is_some o
found_as_read bytes (Some v) = refl
found_as_read bytes None = refl

-- the missing variable with the values of a map, read in some way, is that under each look-up with values for
-- the same names
pub missing_by_names : {Seen : Type 0} (t : Tree) (bytes : Seen → List ℕ) (look_up : List ℕ → Option Seen)
    (stated : Option Fault) → IfSome stated (IsMissing (value 0 t (look_up_of bytes look_up)))
    → ByNames look_up (λ look. IfSome stated (IsMissing (value 0 t look)))
missing_by_names t bytes look_up None missing look same = tt
missing_by_names t bytes look_up (Some f) (position, name, missing, is) look same =
    let read = look_up_of bytes look_up in
    let (more, first) = missing_first 0 position t read name missing in
    let alike = missing_same 0 t look read (λ n. same n ∙ sym (found_as_read bytes (look_up n))) in
    let tells = value_tells 0 t look in
    let there = missing_of_first (steps_of 0 t look) _ position name more tells (alike ∙ first) in
    (position, name, there, is)
