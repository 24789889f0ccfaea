-- A variable that was prompted for has a value, so it isn't missing again.
use Rattle.std.proofs.Common.{◌≡◌, ℕ, List, Option, Some, None, Result, Ok, Err, IfErr, IfSome, IsSome, refl, subst, string_bytes}
use Rattle.std.specs.Option.{option_map}
use Rattle.subst.specs.ErrorFault.{error_fault}
use Rattle.subst.specs.Errors.{Error}
use Rattle.subst.specs.Errors.error as error
use Rattle.subst.specs.Fault.{Fault, NoSuchVariable}
use Rattle.subst.specs.Language.Answer.{Answers, Refuses}
use Rattle.subst.specs.Language.LookUp.{LookUp}
use Rattle.subst.specs.Calls.Outcome.{answer_of}
use Rattle.subst.proofs.Calling.{answer_unique}
use Rattle.subst_uses.specs.CommandLine.{texts_of}
use Rattle.subst_uses.proofs.missing.expanded_or_prompted.Goals as goal

-- an error that isn't `NoSuchVariable` states no missing variable
states_another : (e : Error) → ((x : _) → ¬ (e ≡ error.NoSuchVariable x)) → (q : ℕ) (name : List ℕ)
    → ¬ (error_fault e ≡ Some (NoSuchVariable q name))
states_another (error.NoSuchVariable x) other q name is = other x refl
states_another _ other q name is = cc

-- the variable that an error states is the one the source is refused for
same_name : (s : List ℕ) (look : LookUp) (e : Error) (x : _) (position : ℕ) (name : List ℕ)
    → e ≡ error.NoSuchVariable x → IfSome (option_map Refuses (error_fault e)) (Answers s look)
    → Answers s look (Refuses (NoSuchVariable position name)) → string_bytes x.name ≡ name
same_name s look e x position name is stated refused =
    let fault = Refuses (NoSuchVariable x.position (string_bytes x.name)) in
    let answer : Answers s look fault =
    subst (λ y. IfSome (option_map Refuses (error_fault y)) (Answers s look)) is stated in
    let same = answer_unique s look fault (Refuses (NoSuchVariable position name)) answer refused in cc

-- if the source isn't refused for a variable, no error states it
not_stated : {T : Type 0} (bytes_of : T → List ℕ) (s : List ℕ) (look : LookUp) (q : ℕ) (name : List ℕ)
    (result : Result T Error) → ¬ (Answers s look (Refuses (NoSuchVariable q name)))
    → IfSome (answer_of bytes_of result) (Answers s look)
    → IfErr result (λ e. ¬ (error_fault e ≡ Some (NoSuchVariable q name)))
not_stated bytes_of s look q name (Ok output) never h = tt
not_stated bytes_of s look q name (Err e) never h = of (error_fault e) h
  where
    of : (o : Option Fault) → IfSome (option_map Refuses o) (Answers s look)
        → ¬ (o ≡ Some (NoSuchVariable q name))
    of None h is = cc
    of (Some f) h is =
        let same : f ≡ NoSuchVariable q name = cc in never (subst (λ g. Answers s look (Refuses g)) same h)

pub returns-in-Ok-clause-answer : goal.returns-in-Ok-clause-answer
returns-in-Ok-clause-answer g c = c.in-Ok.ensures.answer (λ v. string_bytes v) (λ v. refl)

pub returns-in_ok-add-in-NoSuchVariable-clause-answer : goal.returns-in_ok-add-in-NoSuchVariable-clause-answer
returns-in_ok-add-in-NoSuchVariable-clause-answer g c =
    c.substitute-in-NoSuchVariable.ensures.answer (λ v. string_bytes v) (λ v. refl)

pub returns-in_ok-add-in-NoSuchVariable-clause-prompted : goal.returns-in_ok-add-in-NoSuchVariable-clause-prompted
returns-in_ok-add-in-NoSuchVariable-clause-prompted g c = λ position q name refused.
    let s = c.args.source.now in
    let new = texts_of c.add.new.variables in
    let same =
    same_name s (texts_of c.args.variables.now) c.in-Err.e c.in-NoSuchVariable.missing position name
    c.in-NoSuchVariable.is (c.in-Err.ensures.answer (λ v. string_bytes v) (λ v. refl)) refused in
    let some = subst (λ n. IsSome (new n)) same c.in_ok-add-in-NoSuchVariable.ensures in
    not_stated (λ output. string_bytes output) s new q name c.substitute-in-NoSuchVariable.result
    (c.missing_variables_are_missing.ensures.retry s new q name some)
    (c.substitute-in-NoSuchVariable.ensures.answer (λ v. string_bytes v) (λ v. refl))

pub returns-in_default : goal.returns-in_default
returns-in_default g c = record {
  answer = c.in-Err.ensures.answer (λ v. string_bytes v) (λ v. refl);
  prompted = λ position q name _ is. states_another c.in-Err.e c.in_default.not-NoSuchVariable q name is;
}
