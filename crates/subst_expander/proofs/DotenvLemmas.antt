-- Lemmas on the settings of .env files and the expansion of values.
use Rattle.std.proofs.Common.{◌≡◌, ◌==◌, ℕ, Bool, true, length, List, [], ◌∷◌, ◌++◌, Option, Some, None, Ok, Err, IfSome, IsUtf8, Bor, reverse, inr, refl, sym, ap, subst, ◌∙◌, append_assoc, arith}
use Rattle.std.proofs.Math.Path.{fun_ext}
use Rattle.std.proofs.lemmas.Grind.{common_steps}
use Rattle.std.specs.Option.{option_map, option_or}
use Rattle.subst.proofs.Calling.{answer_unique}
use Rattle.subst.specs.ErrorFault.{error_fault}
use Rattle.subst.specs.Errors.{Error}
use Rattle.subst.specs.Fault.{Fault, NoSuchVariable}
use Rattle.subst.specs.Foreign.{Given, unplaced}
use Rattle.subst.specs.Language.Answer.{Answer, Answers, Gives, Refuses}
use Rattle.subst.specs.Language.LookUp.{LookUp}
use Rattle.subst.specs.Language.Value.{Value, Bytes, Missing, value}
use Rattle.subst.specs.Question.{by_question}
use Rattle.subst.specs.Reading.{Listing, VariableAt}
use Rattle.subst.specs.Template.{IsTemplate, renamed, without_question}
use Rattle.subst_expander.specs.DotenvLine.{Sets, line_in}
use Rattle.subst_expander.specs.declared.fault.Cause.{Cause}
use Rattle.subst_expander.specs.Dotenv.{Expands, Stops, after_setting, sets, FilesLeave, IsMissingOf, IsUnreadableAmong, IsValueOf, Leaves, NamesUnreadable, look_up_after, look_up_by, setting, shell, value_in}
use Rattle.subst_expander.specs.Layers.{AreVariablesOf, Entry, IsUnreadable, look_up_in}
use Rattle.subst_expander.specs.Mark.{after_mark}
use Rattle.subst_expander.specs.declared.dotenv.value.Scope.{Scope}
use Rattle.subst_foreign.specs.declared.forms.Forms.TheVariants.{Shell}
use Rattle.subst_foreign.specs.declared.forms.Missing.TheVariants.{Nothing}

-- the text s has this answer, by its value
abbrev pub IsAnswerOf : LookUp → (s : List ℕ) → Answer → Type 0
IsAnswerOf look s (Gives x) = IsValueOf look s (Ok x)
IsAnswerOf look s (Refuses f) = IsMissingOf look s f

-- the answer of a template, under the answers to its questions, is that of the text
pub answered : (look : LookUp) (s source : List ℕ) (answer : Answer) → IsTemplate shell Nothing s source
    → Answers source (by_question look) answer → IsAnswerOf look s answer
answered look s source answer is known = of (value 0 is.tree (by_question look)) refl
  where
    of : (v : Value) → value 0 is.tree (by_question look) ≡ v → IsAnswerOf look s answer
    of (Bytes x) same =
        let one = answer_unique source (by_question look) answer (Gives x) known (is.tree, is.spells, same) in
        subst (IsAnswerOf look s) (sym one)
        (is.items, is.read, is.spelled, sym (is.gives look) ∙ ap (λ v. renamed Shell (unplaced v)) same)
    of (Missing position name) same =
        let missing = NoSuchVariable position name in
        let one =
        answer_unique source (by_question look) answer (Refuses missing) known
        (inr (is.tree, is.spells, (position, name, same, refl))) in
        let value = sym (is.gives look) ∙ ap (λ v. renamed Shell (unplaced v)) same in
        subst (IsAnswerOf look s) (sym one)
        (position, name, refl, (is.items, is.read, is.spelled, value))

-- an error with the fault of the template has the variable that is missing in the text
pub missing_stated : (look : LookUp) (s source : List ℕ) (e : Error) → IsTemplate shell Nothing s source
    → IfSome (option_map Refuses (error_fault e)) (Answers source (by_question look))
    → IfSome (error_fault e) (IsMissingOf look s)
missing_stated look s source e is = of (error_fault e)
  where
    of : (found : Option Fault) → IfSome (option_map Refuses found) (Answers source (by_question look))
        → IfSome found (IsMissingOf look s)
    of None known = tt
    of (Some f) known = answered look s source (Refuses f) is known

-- the lookup in code is that of the entries above and the entries before
pub same_look_up_after : (scope : Scope) (above before : List Entry) → AreVariablesOf scope.above.now above
    → ((name : List ℕ) → value_in scope.set.now name ≡ look_up_in (reverse before) name)
    → look_up_by scope ≡ look_up_after above before
same_look_up_after scope above before are have =
    fun_ext (λ name. ap (λ (look : LookUp). option_or (look name) (value_in scope.set.now name)) are.values
    ∙ ap (λ found. option_or (look_up_in above name) found) (have name))

-- the entries after one more file
pub files_more : (above start : List Entry) (files : List (List ℕ)) (s : List ℕ) (middle after : List Entry)
    → FilesLeave above start files middle → IsUtf8 s × Leaves above middle (after_mark s) after
    → FilesLeave above start (files ++ s ∷ []) after
files_more above start [] s middle after same (utf8, leaves) =
    (after, utf8, subst (λ it. Leaves above it (after_mark s) after) (sym same) leaves, refl)
files_more above start (file ∷ files) s middle after (next, utf8, here, later) leaves =
    (next, utf8, here, files_more above next files s middle after later leaves)

-- the next element is moved from those left to those done
pub one_more_done : {X : Type 0} (list done left rest : List X) (x : X) → list ≡ done ++ left → left ≡ x ∷ rest
    → list ≡ (done ++ x ∷ []) ++ rest
one_more_done list done left rest x all steps =
    all ∙ ap (λ xs. done ++ xs) steps ∙ sym (append_assoc done (x ∷ []) rest)

-- the entries after the later lines, from a line that sets a name
pub after_setting_left : (above before more after : List Entry) (s name value later x : List ℕ)
    → Sets name value later ≡ line_in s → Expands above before value x → more ≡ before ++ setting name x ∷ []
    → Leaves above more later after → Leaves above before s after
after_setting_left above before more after s name value later x is expands added leaves =
    sets name value later x (sym is) expands (subst (λ it. Leaves above it later after) added leaves)

-- the refusal of a later line, from a line that sets a name
pub after_setting_stopped : (above before more : List Entry) (rest : List ℕ) (cause : Cause)
    (s name value later x : List ℕ)
    → Sets name value later ≡ line_in s → Expands above before value x → more ≡ before ++ setting name x ∷ []
    → Stops above more later rest cause → Stops above before s rest cause
after_setting_stopped above before more rest cause s name value later x is expands added stops =
    after_setting name value later x (sym is) expands (subst (λ it. Stops above it later rest cause) added stops)

-- a variable of the text whose value above isn't UTF-8
pub names_unreadable : (above : List Entry) (s t taken : List ℕ) (name : Bor (List ℕ)) (variables : List VariableAt)
    → Listing shell 0 0 t variables → t ≡ s → IsUnreadableAmong above variables name → taken ≡ name.now
    → NamesUnreadable above s taken
names_unreadable above s t taken name variables listed same (v, one, is, unreadable) taken_is = (
  variables,
  subst (λ x. Listing shell 0 0 x variables) same listed,
  (v, one, is ∙ sym taken_is),
  subst (IsUnreadable above) (sym taken_is) unreadable,
)

-- the value of a text by the lookup in code is its value by the entries
pub value_after : (scope : Scope) (above before : List Entry) → AreVariablesOf scope.above.now above
    → ((name : List ℕ) → value_in scope.set.now name ≡ look_up_in (reverse before) name)
    → (s t : List ℕ) (given : Given) → t ≡ s → IsValueOf (look_up_by scope) t given
    → IsValueOf (look_up_after above before) s given
value_after scope above before are have s t given same value =
    subst (λ look. IsValueOf look s given) (same_look_up_after scope above before are have)
    (subst (λ x. IsValueOf (look_up_by scope) x given) same value)

-- the missing variable in a template's fault is that of its text
pub missing_named : (look : LookUp) (s : List ℕ) (position : ℕ) (n : List ℕ)
    → IsMissingOf look s (NoSuchVariable position n) → IsValueOf look s (Err (without_question n))
missing_named look s position n (p, name, same, value) =
    let is : name ≡ n = cc in subst (λ m. IsValueOf look s (Err (without_question m))) is value

-- if a test for an empty list passes, the list is empty
pub empty_if : {X : Type 0} (xs : List X) (test : Bool) → test ≡ (length xs == 0) → test ≡ true → xs ≡ []
empty_if [] test is holds = refl
empty_if (x ∷ xs) test is holds = grind (arith, common_steps, is, holds)
