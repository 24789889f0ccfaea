-- From the outcome of an expansion to the answer of the source.
use Rattle.std.proofs.Common.{◌≡◌, ◌≤◌, ◌<◌, ℕ, ◌+◌, List, ◌++◌, [], ◌∷◌, Option, Some, None, IfErr, IfNone, IfSome, OnErr, OnOk, Result, Ok, Err, length, refl, sym, ◌∙◌, subst}
use Rattle.std.proofs.lemmas.Str.{IsUtf8-append}
use Rattle.std.specs.Option.{option_map}
use Rattle.std.specs.Str.{IsUtf8}
use Rattle.subst_error.specs.Fault.{Fault, NoSuchVariable}
use Rattle.subst_error.specs.ErrorFault.{expand_into_fault}
use Rattle.subst_error.specs.Range.{IsRangeIn, range_of}
use Rattle.subst_error.specs.declared.borrowed.ExpandIntoError.{ExpandIntoError}
use Rattle.subst_language.specs.Language.Answer.{Answers, Gives, Refuses, IsMissing}
use Rattle.subst_language.specs.Language.LookUp.{LookUp}
use Rattle.subst_language.specs.Language.Sentence.{ByTree}
use Rattle.subst_language.specs.Language.Value.{Value, Bytes, Missing, value}
use Rattle.subst_language.specs.Language.Written.{written}
use Rattle.subst_language.specs.Calls.Clauses.{HasOutput}
use Rattle.subst_language.specs.Calls.VariableMap.{ByLookUp, ByNames, look_up_of}
use Rattle.subst_language.proofs.CallingLemmas.{same_look_up}
use Rattle.subst_language.proofs.Language.AlikeLemmas.{found_as_read, missing_by_names}
use Rattle.subst_language.proofs.Language.AnswerLemmas.{refused_into}
use Rattle.subst_language.proofs.Language.RangeLemmas.{error_in_text}
use Rattle.subst_expand.specs.Expansion.{AppendsTemplate, IsExpansion}
use Rattle.subst_expand.specs.Filled.{mark, marks_of}
use Rattle.subst_expand.proofs.FilledTextLemmas.{output_is_text}
use Rattle.subst_expand.proofs.TemplateOfLemmas.{template_value, template_written, errors_missing, errors_range}
use Rattle.subst_language.proofs.PartsLemmas.{same_value}

module _ {V Seen : Type 0} (read : V → List ℕ) (is_read : List ℕ → Type 0) (see : V → Seen)
    (look_up : List ℕ → Option Seen) (s before after : List ℕ) (capacity len : ℕ) where
  module _ (outcome : Result (Unit {0}) ExpandIntoError) (is : outcome ≡ Ok tt)
      (expansion : IsExpansion read is_read see look_up s before after capacity len outcome) where
    done : IsExpansion read is_read see look_up s before after capacity len (Ok tt)
    done = subst (IsExpansion read is_read see look_up s before after capacity len) is expansion

    -- an expansion that succeeds
    pub answers : ByLookUp read see look_up
        (λ look. (x : List ℕ) × Answers s look (Gives x) × (after ≡ before ++ x))
    answers bytes reads =
        let template = done.template in
        let (x, gives, appended) = done.expands.value bytes reads in
        let look = look_up_of bytes look_up in
        (x, (template.tree, template.spells, sym (same_value template.mean look) ∙ gives), appended)

    -- one that succeeds: the source has an output, whatever the values
    pub completes : HasOutput look_up s
    completes look names = of (value 0 done.template.tree look) refl
      where
        of : (v : Value) → value 0 done.template.tree look ≡ v → (x : List ℕ) × Answers s look (Gives x)
        of (Bytes x) is = (x, (done.template.tree, done.template.spells, is))
        of (Missing position name) is =
            let f = NoSuchVariable position name in
            let missing = subst (λ l. IsMissing (value 0 done.template.tree l) f) (sym (same_look_up look))
            (position, name, is, refl) in
            let (p, n, lacks, same) = missing_by_names done.template.tree (λ x. x) look (Some f) missing
            (marks_of look_up) (λ n. found_as_read (λ _. mark ∷ []) (look_up n) ∙ sym (names n)) in
            let (x, fills, appended) = done.expands.filled in
            let given = sym (same_value done.template.mean (marks_of look_up)) ∙ fills.given in
            absurd cc

  module _ (outcome : Result (Unit {0}) ExpandIntoError) (e : ExpandIntoError) (is : outcome ≡ Err e)
      (expansion : IsExpansion read is_read see look_up s before after capacity len outcome) where
    failed : IsExpansion read is_read see look_up s before after capacity len (Err e)
    failed = subst (IsExpansion read is_read see look_up s before after capacity len) is expansion

    -- one that fails: it states the refusal of the source
    pub refuses : ByLookUp read see look_up
        (λ look. IfSome (expand_into_fault e) (λ f. Answers s look (Refuses f)))
    refuses bytes reads =
        let template = failed.template in
        let look = look_up_of bytes look_up in
        refused_into {T = Unit {0}} expand_into_fault s look (Err e) (template.tree, template.spells)
        (λ t spells. subst (λ v. IfSome (expand_into_fault e) (IsMissing v))
        (template_value s failed.parts t look template spells) (failed.expands.value bytes reads))

    -- one that fails: it states the refusal of the source, whatever the values
    pub refuses_by_names : ByNames look_up
        (λ look. IfSome (expand_into_fault e) (λ f. Answers s look (Refuses f)))
    refuses_by_names look names =
        let template = failed.template in
        refused_into {T = Unit {0}} expand_into_fault s look (Err e) (template.tree, template.spells)
        (λ t spells. errors_missing {T = Unit {0}} expand_into_fault s failed.parts t look_up (Err e) template
        spells failed.expands.missing look names)

    -- out of memory only if the capacity is less than the bytes written
    pub short_room : ByLookUp read see look_up
        (λ look. ByTree s (λ t. IfNone (expand_into_fault e) (capacity < len + length (written 0 t look))))
    short_room bytes reads t spells =
        subst (λ (x : List ℕ). IfNone (expand_into_fault e) (capacity < len + length x))
        (template_written s failed.parts t (look_up_of bytes look_up) failed.template spells)
        (failed.expands.full bytes reads)

    -- the range of the error
    pub range_within : (range_of (expand_into_fault e)).end ≤ length s
    range_within =
        errors_range {T = Unit {0}} expand_into_fault s failed.parts look_up (Err e) failed.template
        failed.expands.missing

-- an error that owns its name states the same refusal, or out of memory
pub owned_refuses : (s : List ℕ) (look : LookUp) (borrowed owned : Option Fault)
    → IfSome owned (λ f. borrowed ≡ Some f) → IfSome borrowed (λ f. Answers s look (Refuses f))
    → IfSome (option_map Refuses owned) (Answers s look)
owned_refuses s look borrowed None same given = tt
owned_refuses s look borrowed (Some f) same given =
    subst (λ o. IfSome o (λ g. Answers s look (Refuses g))) same given

-- a text with the output appended is a text, if the values are
pub appended_is_text : {Seen : Type 0} (s : List ℕ) (look_up : List ℕ → Option Seen) {before after : List ℕ}
    → IsUtf8 s → IsUtf8 before → AppendsTemplate IsUtf8 look_up s before after → IsUtf8 after
appended_is_text s look_up {before = before} is first (parts, template, (x, fills, appended)) =
    subst IsUtf8 (sym appended)
    (IsUtf8-append before x first (output_is_text s parts look_up x template is fills))

-- the text is one after the call, whether something was appended or it is unchanged
pub text_since : {Seen T E : Type 0} (s : List ℕ) (look_up : List ℕ → Option Seen) (result : Result T E)
    {before after : List ℕ} → IsUtf8 s → IsUtf8 before → OnErr result (after ≡ before)
    → OnOk result (AppendsTemplate IsUtf8 look_up s before after) → IsUtf8 after
text_since s look_up (Ok done) is first same appends = appended_is_text s look_up is first appends
text_since s look_up (Err e) is first same appends = subst IsUtf8 (sym same) first

-- the range of a refusal of a text is in it
pub range_in_text : {Seen : Type 0} (s : List ℕ) (look_up : List ℕ → Option Seen) (stated : Option Fault)
    → IsUtf8 s → ByNames look_up (λ look. IfSome stated (λ f. Answers s look (Refuses f)))
    → IsRangeIn s (range_of stated)
range_in_text s look_up stated is by_names =
    error_in_text s (marks_of look_up) stated is
    (by_names (marks_of look_up) (λ name. found_as_read (λ _. mark ∷ []) (look_up name)))

-- the range of an error that states a refusal of a text is in it
pub ranges_in_text : {Seen T E : Type 0} (fault_of : E → Option Fault) (s : List ℕ)
    (look_up : List ℕ → Option Seen) (result : Result T E) → IsUtf8 s
    → ByNames look_up (λ look. IfErr result (λ e. IfSome (fault_of e) (λ f. Answers s look (Refuses f))))
    → IfErr result (λ e. IsRangeIn s (range_of (fault_of e)))
ranges_in_text fault_of s look_up (Ok done) is by_names = tt
ranges_in_text fault_of s look_up (Err e) is by_names =
    range_in_text s look_up (fault_of e) is (λ look names. by_names look names)

-- the refusal that a result states
pub states_refusal : (s : List ℕ) (look : LookUp) (o : Option Fault)
    → IfSome (option_map Refuses o) (Answers s look) → IfSome o (λ f. Answers s look (Refuses f))
states_refusal s look None given = tt
states_refusal s look (Some f) given = given
