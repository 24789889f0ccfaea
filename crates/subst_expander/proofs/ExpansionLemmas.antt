-- Lemmas on the outputs of sources.
use Rattle.std.proofs.Common.{◌≡◌, ℕ, List, [], ◌∷◌, ◌++◌, Option, Some, None, Result, Ok, Err, IfOk, IfSome, inl, inr, refl, sym, ap, ◌∙◌, subst, append_assoc, append-nil}
use Rattle.std.proofs.lemmas.List.Elements.{recursion_from_All}
use Rattle.std.proofs.lemmas.Result.{IfErr-weaker, IfOk-weaker}
use Rattle.std.specs.List.{All}
use Rattle.std.specs.Prelude.{◌⊎◌, IfErr, IfNone}
use Rattle.subst.proofs.Calling.{plain_answer}
use Rattle.subst_language.proofs.Language.PlainLemmas.{plains, text-plains, well_formed_plains}
use Rattle.subst_language.specs.Language.Bytes.{IsPlain}
use Rattle.subst_language.specs.Language.NamesIn.{names_in}
use Rattle.subst_language.specs.Language.Sentence.{Spells}
use Rattle.subst_expander.proofs.PartLemmas.{pushed, readable_nameless}
use Rattle.subst_expander.specs.Faults.{IsNoText}
use Rattle.subst_expander.specs.Fill.{AreOutputs, GivesFor, IsSourceOutput}
use Rattle.subst_expander.specs.Layers.{Entry}
use Rattle.subst_expander.specs.Refusals.{AreFaultsIn, AreRefusals, IsRefusalOf}
use Rattle.subst_expander.specs.ValuesFaults.{HasOne}
use Rattle.subst_expander.specs.declared.document.format.Format.{Format}
use Rattle.subst_expander.specs.declared.fault.Fault.{Fault}
use Rattle.subst_expander.specs.declared.format_rule.FormatRule.{FormatRule}
use Rattle.subst_expander.specs.declared.kinds.InputFormat.{InputFormat}
use Rattle.subst_expander.specs.declared.kinds.InputFormat.TheVariants.{Text, Bytes, Document}
use Rattle.subst_expander.specs.declared.kinds.Placeholders.{Placeholders}
use Rattle.subst_expander.specs.declared.kinds.Placeholders.TheVariants.{Own}
use Rattle.subst_expander.specs.declared.source.Refused.{Refused}
use Rattle.subst_expander.specs.declared.source.Source.{Source}

-- the output of the next source comes after those of the others
outputs_more : (rule : FormatRule) (placeholders : Placeholders) (entries : List Entry)
    (sources : List Source) (source : Source) (output x : List ℕ)
    → IsSourceOutput rule placeholders entries source x → AreOutputs rule placeholders entries sources output
    → AreOutputs rule placeholders entries (sources ++ source ∷ []) (output ++ x)
outputs_more rule placeholders entries [] source output x is none =
    (x, [], is, refl, ap (λ l. l ++ x) none ∙ sym (append-nil x))
outputs_more rule placeholders entries (s ∷ sources) source output x is (y, more, here, rest, both) = (
  y,
  more ++ x,
  here,
  outputs_more rule placeholders entries sources source more x is rest,
  ap (λ l. l ++ x) both ∙ append_assoc y more x,
)

module _ (rule : FormatRule) (placeholders : Placeholders) (entries : List Entry) (source : Source) where
  abbrev Are : List Source → List Refused → Type 0
  Are = AreRefusals rule placeholders entries

  -- the next source isn't refused
  output_next : (x : List ℕ) → IsSourceOutput rule placeholders entries source x → (sources : List Source)
      (refused : List Refused) → Are sources refused → Are (sources ++ source ∷ []) refused
  output_next x is [] refused none = inl (x, is, none)
  output_next x is (s ∷ sources) refused (inl (y, gives, rest)) =
      inl (y, gives, output_next x is sources refused rest)
  output_next x is (s ∷ sources) refused (inr (it, more, one, rest, both)) =
      inr (it, more, one, output_next x is sources more rest, both)

  -- the next source is refused
  refusal_next : (it : Refused) → IsRefusalOf rule placeholders entries source it → (sources : List Source)
      (refused : List Refused) → Are sources refused → Are (sources ++ source ∷ []) (refused ++ it ∷ [])
  refusal_next it is [] refused none = inr (it, [], is, refl, ap (λ l. l ++ it ∷ []) none)
  refusal_next it is (s ∷ sources) refused (inl (y, gives, rest)) =
      inl (y, gives, refusal_next it is sources refused rest)
  refusal_next it is (s ∷ sources) refused (inr (first, more, one, rest, both)) =
      inr (first, more ++ it ∷ [], one, refusal_next it is sources more rest, ap (λ l. l ++ it ∷ []) both)

-- the sources have an output unless there are refusals, and these are the refusals
abbrev pub AreDone : FormatRule → Placeholders → List Entry → List Source → List ℕ → List Refused → Type 0
AreDone rule placeholders entries sources output refused =
    (refused ≡ [] → AreOutputs rule placeholders entries sources output)
    × AreRefusals rule placeholders entries sources refused

-- the next source is done: its output is appended, or it is refused
pub done_more : (rule : FormatRule) (placeholders : Placeholders) (entries : List Entry)
    (sources : List Source) (source : Source) (old new : List ℕ) (refused more : List Refused)
    → AreDone rule placeholders entries sources old refused
    → ((x : List ℕ) × IsSourceOutput rule placeholders entries source x × (new ≡ old ++ x) × (more ≡ refused))
    ⊎ ((it : Refused) × IsRefusalOf rule placeholders entries source it × (more ≡ refused ++ it ∷ []))
    → AreDone rule placeholders entries (sources ++ source ∷ []) new more
done_more rule placeholders entries sources source old new refused more (outputs, refusals)
    (inl (x, is, both, same)) = rw (both, same) (
      λ none. outputs_more rule placeholders entries sources source old x is (outputs none),
      output_next rule placeholders entries source x is sources refused refusals,
    )
done_more rule placeholders entries sources source old new refused more (outputs, refusals)
    (inr (it, is, both)) = (
      λ none. absurd (pushed refused it (sym both ∙ none)),
      rw both (refusal_next rule placeholders entries source it is sources refused refusals),
    )

-- a property of the library's value holds for the value of the converted result
pub returned : {T U E A : Type 0} (result : Result (Option T) E) (outcome : Result (Result T U) A)
    (P : T → Type 0) → IfOk outcome (λ it. IfOk it (λ it. result ≡ Ok (Some it)))
    → IfOk result (λ it. IfSome it P) → IfOk outcome (λ it. IfOk it P)
returned result (Ok (Ok it)) P same holds = subst (λ r. IfOk r (λ it. IfSome it P)) same holds
returned result (Ok (Err e)) P same holds = tt
returned result (Err e) P same holds = tt

-- a tree of plain bytes has no name
plain_names : (s : List ℕ) → names_in (plains s) ≡ []
plain_names [] = refl
plain_names (b ∷ s) = plain_names s

-- a plain source is its own output
pub plain_output : (entries : List Entry) (s : List ℕ) → All IsPlain s → GivesFor Own entries s s
plain_output entries s plain =
    let spells : Spells (plains s) s = record {
      well_formed = well_formed_plains s (recursion_from_All IsPlain s plain);
      spelled = sym (text-plains s);
    } in
    let readable = readable_nameless None entries s (plains s) spells (plain_names s) in
    (s, refl, (readable, λ look _. plain_answer s look plain))

-- a property that holds in any case holds if there is no value
pub if_none : {T : Type 0} (it : Option T) (P : Type 0) → P → IfNone it P
if_none None P holds = holds
if_none (Some x) P holds = tt

-- a weaker property of an output
pub weaker_outcome : {T U E : Type 0} (outcome : Result (Result T U) E) (P Q : T → Type 0)
    → ((it : T) → P it → Q it) → IfOk outcome (λ it. IfOk it P) → IfOk outcome (λ it. IfOk it Q)
weaker_outcome outcome P Q weaker =
    IfOk-weaker outcome (λ it. IfOk it P) (λ it. IfOk it Q) (λ it. IfOk-weaker it P Q weaker)

-- a weaker property of faults
pub weaker_faults : {T U E : Type 0} (outcome : Result (Result T U) E) (P Q : U → Type 0)
    → ((it : U) → P it → Q it) → IfOk outcome (λ it. IfErr it P) → IfOk outcome (λ it. IfErr it Q)
weaker_faults outcome P Q weaker =
    IfOk-weaker outcome (λ it. IfErr it P) (λ it. IfErr it Q) (λ it. IfErr-weaker it P Q weaker)

-- if bytes aren't UTF-8, that is the only fault of a source that is a text or a document
pub no_text : (form : InputFormat) (placeholders : Placeholders) (entries : List Entry) (s : List ℕ)
    (faults : List Fault) → ¬ (form ≡ Bytes) → HasOne (IsNoText s) faults
    → AreFaultsIn form placeholders entries s faults
no_text Bytes placeholders entries s faults other is = absurd (other refl)
no_text Text placeholders entries s faults other is = inl is
no_text (Document format) placeholders entries s faults other is = inl is

-- a format that is neither bytes nor a document is text
pub of_text : (form : InputFormat) (P : InputFormat → Type 0) → ¬ (form ≡ Bytes)
    → ((format : Format) → ¬ (form ≡ Document format)) → P Text → P form
of_text Text P bytes document text = text
of_text Bytes P bytes document text = absurd (bytes refl)
of_text (Document format) P bytes document text = absurd (document format refl)
