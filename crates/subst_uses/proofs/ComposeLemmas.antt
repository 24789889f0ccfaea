-- The value of a template for a text is that of the text.
use Rattle.std.proofs.Common.{◌≡◌, ℕ, List, Option, Some, None, Ok, IfSome, inr, refl, sym, ap, subst, ◌∙◌}
use Rattle.std.specs.Option.{option_map}
use Rattle.subst.specs.ErrorFault.{error_fault}
use Rattle.subst.specs.Errors.{Error}
use Rattle.subst.specs.Fault.{Fault, NoSuchVariable}
use Rattle.subst.specs.Language.Answer.{Answer, Answers, Gives, Refuses}
use Rattle.subst.specs.Language.LookUp.{LookUp}
use Rattle.subst.specs.Language.Value.{Value, Bytes, Missing, value}
use Rattle.subst.specs.Question.{by_question}
use Rattle.subst.specs.Foreign.{unplaced}
use Rattle.subst.specs.Template.{IsTemplate, renamed}
use Rattle.subst.proofs.Calling.{answer_unique}
use Rattle.subst.specs.Styles.forms.{Shell}
use Rattle.subst.specs.Styles.missing.{Nothing}
use Rattle.subst_uses.specs.Compose.{compose, IsMissingOf, IsValueOf}

-- the text s has this answer, by its value
abbrev pub IsAnswerOf : LookUp → (s : List ℕ) → Answer → Type 0
IsAnswerOf look s (Gives x) = IsValueOf look s (Ok x)
IsAnswerOf look s (Refuses f) = IsMissingOf look s f

-- the answer of a template, under the answers to questions, is that of its text
pub answered : (look : LookUp) (s source : List ℕ) (answer : Answer) → IsTemplate compose Nothing s source
    → Answers source (by_question look) answer → IsAnswerOf look s answer
answered look s source answer is known = of (value 0 is.tree (by_question look)) refl
  where
    of : (v : Value) → value 0 is.tree (by_question look) ≡ v → IsAnswerOf look s answer
    of (Bytes x) same =
        let one = answer_unique source (by_question look) answer (Gives x) known (is.tree, is.spells, same) in
        subst (IsAnswerOf look s) (sym one)
        (is.items, is.read, is.spelled, sym (is.gives look) ∙ ap (λ v. renamed Shell (unplaced v)) same)
    of (Missing position name) same =
        let missing = NoSuchVariable position name in
        let one =
        answer_unique source (by_question look) answer (Refuses missing) known
        (inr (is.tree, is.spells, (position, name, same, refl))) in
        let value = sym (is.gives look) ∙ ap (λ v. renamed Shell (unplaced v)) same in
        subst (IsAnswerOf look s) (sym one)
        (position, name, refl, (is.items, is.read, is.spelled, value))

-- an error with the fault of the template states the missing variable of the text
pub missing_stated : (look : LookUp) (s source : List ℕ) (e : Error) → IsTemplate compose Nothing s source
    → IfSome (option_map Refuses (error_fault e)) (Answers source (by_question look))
    → IfSome (error_fault e) (IsMissingOf look s)
missing_stated look s source e is = of (error_fault e)
  where
    of : (found : Option Fault) → IfSome (option_map Refuses found) (Answers source (by_question look))
        → IfSome found (IsMissingOf look s)
    of None known = tt
    of (Some f) known = answered look s source (Refuses f) is known
