-- A map's answer to a text, from the clauses of a call that substitutes it.
use Rattle.std.proofs.Common.{◌≡◌, ℕ, List, Option, Some, None, Result, Ok, Err, IfOk, IfSome, IsSomeAnd, is_some, true}
use Rattle.std.specs.List.{All}
use Rattle.std.specs.Option.{option_map}
use Rattle.subst_error.specs.ErrorFault.{error_fault}
use Rattle.subst_error.specs.Fault.{Fault}
use Rattle.subst_error.specs.Range.{range_of, IsRangeIn}
use Rattle.subst_error.specs.declared.Error.{Error}
use Rattle.subst_language.specs.Calls.Clauses.{AnswersText, HasOutput, IsRangedIn}
use Rattle.subst_language.specs.Calls.Outcome.{answer_of, refusal_of}
use Rattle.subst_language.specs.Calls.VariableMap.{ByLookUp, ByNames}
use Rattle.subst_language.specs.Language.Answer.{Answers, Gives, Refuses}
use Rattle.subst_language.specs.Language.Bytes.{IsPlain}
use Rattle.subst_language.proofs.CallingLemmas.{plain_answer}

module _ {V Seen : Type 0} (items : V → List ℕ) (see : V → Seen) (look_up : List ℕ → Option Seen)
    (s : List ℕ) where
  -- the output of a plain text is the text
  pub plain_text : All IsPlain s → AnswersText items see look_up s (Gives s)
  plain_text plain =
      ((λ look names. (s, plain_answer s look plain)), λ bytes reads. plain_answer s _ plain)

  -- the result of a substitution states the answer
  pub stated_answer : {T : Type 0} (bytes_of : T → List ℕ) (result : Result T Error)
      → ByLookUp items see look_up (λ look. IfSome (answer_of bytes_of result) (Answers s look))
      → IfOk result (λ output. HasOutput look_up s)
      → ByNames look_up (λ look. IfSome (refusal_of result) (Answers s look))
      → IsRangedIn s error_fault result → IfSome (answer_of bytes_of result) (AnswersText items see look_up s)
  stated_answer bytes_of (Ok output) answer complete refusal range = (complete, answer)
  stated_answer bytes_of (Err e) answer complete refusal range = of (error_fault e) refusal range
    where
      of : (o : Option Fault) → ByNames look_up (λ look. IfSome (option_map Refuses o) (Answers s look))
          → IsRangeIn s (range_of o) → IfSome (option_map Refuses o) (AnswersText items see look_up s)
      of None refusal range = tt
      of (Some f) refusal range = (refusal, range)

  -- an error that states a fault states the refusal
  pub stated_refusal : (fault : Option Fault) → is_some fault ≡ true
      → ByNames look_up (λ look. IfSome (option_map Refuses fault) (Answers s look))
      → IsRangeIn s (range_of fault) → IsSomeAnd fault (λ f. AnswersText items see look_up s (Refuses f))
  stated_refusal None is refusal range = absurd cc
  stated_refusal (Some f) is refusal range = (refusal, range)
