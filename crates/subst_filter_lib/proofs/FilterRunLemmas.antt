-- The answer of a run, from what was read, substituted and written.
use Rattle.std.proofs.Common.{◌≡◌, ◌⊎◌, ℕ, Bool, List, Option, Some, None, IfSome, IsSomeAnd, MatchOption, Result, Ok, Err, OnOk, IfErr, IsSome, String, arith, inl, inr, refl, sym, subst}
use Rattle.std.proofs.lemmas.Grind.{common_steps}
use Rattle.std.specs.Global.{Global}
use Rattle.std.specs.Io.KnownBytes.{Appends}
use Rattle.std.specs.Option.{option_map}
use Rattle.std.specs.Str.{IsUtf8}
use Rattle.subst.specs.Language.Answer.{Answers, Gives, Refuses}
use Rattle.subst.specs.ErrorFault.{error_fault}
use Rattle.subst.specs.Fault.{Fault}
use Rattle.subst.specs.Language.LookUp.{LookUp}
use Rattle.subst.specs.Errors.{Error}
use Rattle.subst_filter_lib.proofs.DeviceLemmas.{holds_of_source}
use Rattle.subst_filter_lib.specs.Device.{AppendsPrefix, ReadsExactly}
use Rattle.subst_filter_lib.specs.FilterRun.{IsRefusedWith, RunAnswers, ReportsText}
use Rattle.subst_filter_lib.specs.RunError.{HighlightsFault, IsRefusalOf, IsWriteFault}
use Rattle.subst_filter_lib.specs.declared.run_error.RunError.{RunError}
use Rattle.subst_filter_lib.specs.declared.run_error.RunError.TheVariants.{Read, Write, NotUtf8, Subst, OutOfMemory}

-- a result of writing the output: all of it was written, or a prefix
answered_by_bytes : (source bytes : List ℕ) (look : LookUp) (r : Result (Unit {0}) RunError) (failed : Bool)
    (old new : Option (List ℕ)) → Answers source look (Gives bytes) → OnOk r (Appends old new bytes)
    → AppendsPrefix old new bytes → IfErr r (IsWriteFault failed) → RunAnswers source look r old new
answered_by_bytes source bytes look (Ok done) failed old new given whole prefix fault =
    record { bytes = bytes; given = given; written = whole }
answered_by_bytes source bytes look (Err Write) failed old new given whole prefix fault =
    record { bytes = bytes; given = given; written = prefix }
answered_by_bytes source bytes look (Err Read) failed old new given whole prefix fault = absurd fault
answered_by_bytes source bytes look (Err NotUtf8) failed old new given whole prefix fault = absurd fault
answered_by_bytes source bytes look (Err (Subst e highlighting)) failed old new given whole prefix fault =
    absurd fault
answered_by_bytes source bytes look (Err OutOfMemory) failed old new given whole prefix fault = absurd fault

-- an error of the substitution as a result: the refusal of the source, or out of memory
answered_by_refusal : (source : List ℕ) (look : LookUp) (e : Error) (highlighting : String Global)
    (f : Option Fault) (fault : RunError) (old new : Option (List ℕ)) → error_fault e ≡ f
    → IfSome (option_map Refuses f) (Answers source look)
    → MatchOption f (fault ≡ OutOfMemory) (λ _. fault ≡ Subst e highlighting)
    → RunAnswers source look (Err fault) old new
answered_by_refusal source look e highlighting None fault old new states refused is =
    subst (λ x. RunAnswers source look (Err x) old new) (sym is) tt
answered_by_refusal source look e highlighting (Some f) fault old new states refused is =
    let stated : IsRefusedWith source look e =
    subst (λ o. IsSomeAnd o (λ x. Answers source look (Refuses x))) (sym states) refused in
    subst (λ x. RunAnswers source look (Err x) old new) (sym is) stated

-- a fault is refused if there is one
refused_with : (source : List ℕ) (look : LookUp) (f : Option Fault) → IsSome f
    → IfSome (option_map Refuses f) (Answers source look)
    → IsSomeAnd f (λ x. Answers source look (Refuses x))
refused_with source look None there refused = grind (arith, common_steps)
refused_with source look (Some f) there refused = refused

-- the refusal of an error is the error of a run whose substitution failed with it
pub is_refusal_of : (e : Error) (highlighting : String Global) (f : Option Fault) (fault : RunError)
    → MatchOption f (fault ≡ OutOfMemory) (λ _. fault ≡ Subst e highlighting)
    → (fault ≡ OutOfMemory) ⊎ (IsSome f × (text : String Global) × (fault ≡ Subst e text))
is_refusal_of e highlighting None fault is = inl is
is_refusal_of e highlighting (Some f) fault is = inr (refl, highlighting, is)

-- the error of a run whose substitution failed states the refusal of the source, or out of memory
answered_by_refusal_of : (source : List ℕ) (look : LookUp) (e : Error) (fault : RunError)
    (old new : Option (List ℕ)) → IfSome (option_map Refuses (error_fault e)) (Answers source look)
    → IsRefusalOf e fault → RunAnswers source look (Err fault) old new
answered_by_refusal_of source look e fault old new refused (inl is) =
    subst (λ x. RunAnswers source look (Err x) old new) (sym is) tt
answered_by_refusal_of source look e fault old new refused (inr h) =
    subst (λ x. RunAnswers source look (Err x) old new) (sym h.2)
    (refused_with source look (error_fault e) h.0 refused)

module _ (left rest : Option (List ℕ)) (all text : List ℕ) (look : LookUp) (old new : Option (List ℕ))
    (read : ReadsExactly left rest all) (same : text ≡ all) where
  -- a run that read its source and wrote the output
  pub delivered : (bytes sent : List ℕ) (r : Result (Unit {0}) RunError) (failed : Bool) → sent ≡ bytes
      → Answers text look (Gives bytes) → OnOk r (Appends old new sent) → AppendsPrefix old new sent
      → IfErr r (IsWriteFault failed) → IfSome left (λ source. RunAnswers source look r old new)
  delivered bytes sent r failed is given whole prefix fault =
      let of_all : Answers all look (Gives bytes) = subst (λ s. Answers s look (Gives bytes)) same given in
      let gives : Answers all look (Gives sent) = subst (λ x. Answers all look (Gives x)) (sym is) of_all in
      holds_of_source (λ source. RunAnswers source look r old new) left rest all read
      (answered_by_bytes all sent look r failed old new gives whole prefix fault)

  -- a run that read its source, and whose substitution failed
  pub refused : (e : Error) (highlighting : String Global) (fault : RunError)
      → IfSome (option_map Refuses (error_fault e)) (Answers text look)
      → MatchOption (error_fault e) (fault ≡ OutOfMemory) (λ _. fault ≡ Subst e highlighting)
      → IfSome left (λ source. RunAnswers source look (Err fault) old new)
  refused e highlighting fault given is =
      let refuses : IfSome (option_map Refuses (error_fault e)) (Answers all look) =
      subst (λ s. IfSome (option_map Refuses (error_fault e)) (Answers s look)) same given in
      holds_of_source (λ source. RunAnswers source look (Err fault) old new) left rest all read
      (answered_by_refusal all look e highlighting (error_fault e) fault old new refl refuses is)

  -- a run over text that read its source, and whose substitution failed
  pub refused_source : (e : Error) (fault : RunError)
      → IfSome (option_map Refuses (error_fault e)) (Answers text look) → IsRefusalOf e fault
      → IfSome left (λ source. RunAnswers source look (Err fault) old new)
  refused_source e fault given is =
      let refuses : IfSome (option_map Refuses (error_fault e)) (Answers all look) =
      subst (λ s. IfSome (option_map Refuses (error_fault e)) (Answers s look)) same given in
      holds_of_source (λ source. RunAnswers source look (Err fault) old new) left rest all read
      (answered_by_refusal_of all look e fault old new refuses is)

-- a result of writing, if the source is UTF-8
reports_written : (source : List ℕ) (r : Result (Unit {0}) RunError) (failed : Bool) → IsUtf8 source
    → IfErr r (IsWriteFault failed) → ReportsText r source
reports_written source (Ok done) failed utf8 fault = utf8
reports_written source (Err Write) failed utf8 fault = utf8
reports_written source (Err Read) failed utf8 fault = absurd fault
reports_written source (Err NotUtf8) failed utf8 fault = absurd fault
reports_written source (Err (Subst e highlighting)) failed utf8 fault = absurd fault
reports_written source (Err OutOfMemory) failed utf8 fault = absurd fault

-- the error of a run whose substitution failed, if the source is UTF-8
reports_refused : (source : List ℕ) (e : Error) (fault : RunError) → IsUtf8 source → IsRefusalOf e fault
    → ReportsText (Err fault) source
reports_refused source e fault utf8 (inl is) = subst (λ x. ReportsText (Err x) source) (sym is) tt
reports_refused source e fault utf8 (inr h) = subst (λ x. ReportsText (Err x) source) (sym h.2) utf8

module _ (left rest : Option (List ℕ)) (all : List ℕ) (read : ReadsExactly left rest all)
    (utf8 : IsUtf8 all) where
  -- a run over text that read its source and wrote
  pub delivered_text : (r : Result (Unit {0}) RunError) (failed : Bool) → IfErr r (IsWriteFault failed)
      → IfSome left (ReportsText r)
  delivered_text r failed fault =
      holds_of_source (ReportsText r) left rest all read (reports_written all r failed utf8 fault)

  -- a run over text that read its source, and whose substitution failed
  pub refused_text : (e : Error) (fault : RunError) → IsRefusalOf e fault
      → IfSome left (ReportsText (Err fault))
  refused_text e fault is =
      holds_of_source (ReportsText (Err fault)) left rest all read (reports_refused all e fault utf8 is)

-- a result of writing isn't a refusal
refuses_nothing : (source : List ℕ) (r : Result (Unit {0}) RunError) (failed : Bool)
    → IfErr r (IsWriteFault failed) → IfErr r (HighlightsFault source)
refuses_nothing source (Ok done) failed fault = tt
refuses_nothing source (Err Write) failed fault = tt
refuses_nothing source (Err Read) failed fault = absurd fault
refuses_nothing source (Err NotUtf8) failed fault = absurd fault
refuses_nothing source (Err (Subst e highlighting)) failed fault = absurd fault
refuses_nothing source (Err OutOfMemory) failed fault = absurd fault

module _ (left rest : Option (List ℕ)) (all : List ℕ) (read : ReadsExactly left rest all) where
  -- a run over text that read its source and wrote
  pub delivered_unhighlighted : (r : Result (Unit {0}) RunError) (failed : Bool)
      → IfErr r (IsWriteFault failed) → IfSome left (λ source. IfErr r (HighlightsFault source))
  delivered_unhighlighted r failed fault =
      holds_of_source (λ source. IfErr r (HighlightsFault source)) left rest all read
      (refuses_nothing all r failed fault)

  -- a run over text that read its source, and whose substitution failed
  pub refused_highlighted : (text : List ℕ) (fault : RunError) → text ≡ all → HighlightsFault text fault
      → IfSome left (λ source. HighlightsFault source fault)
  refused_highlighted text fault same is =
      holds_of_source (λ source. HighlightsFault source fault) left rest all read
      (subst (λ (s : List ℕ). HighlightsFault s fault) same is)
