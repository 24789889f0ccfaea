-- Filled-in events. `ask` relates a string to its answers.
use Rattle.std.proofs.Common.{◌≡◌, ℕ, Bool, false, List, [], ◌∷◌, ◌++◌, append_assoc, ap, drop, length, Option, Some, None, IfNone, IfOk, IfSome, Ok, Result, option_map, ◌+◌, slice_range, refl, sym, ◌∙◌, subst, inl, arith}
use Rattle.std.proofs.lemmas.Grind.{common_steps}
use Rattle.subst_language.specs.Language.Answer.{Answer}
use Rattle.subst_yaml_reader.specs.declared.event.Event.{Event}
use Rattle.subst_yaml_reader.specs.declared.event.Event.TheVariants.{Document, Item, Key, Value, Open, FlowKey, Null, Close}
use Rattle.subst_yaml_reader.specs.declared.event.Span.{Span}
use Rattle.subst_yaml_reader.specs.declared.event.Style.{Style}
use Rattle.subst_yaml_reader.specs.declared.event.Style.TheVariants as style
use Rattle.subst_yaml.specs.Filled.{end_of, is_unblocked, rest_of_value, token_at, AreFilled, IsFilledEvent, IsFilledValue}
use Rattle.subst_yaml.specs.Passes.{AllStay, IsFilledTo, StaysAt}
use Rattle.subst_yaml.specs.declared.compared.Positions.{Positions}

-- a range to the end of a text is the rest of the text
pub to_end : (xs : List ℕ) (i : ℕ) → slice_range xs i (length xs) ≡ drop i xs
to_end xs i = grind (arith, common_steps)

pub no_part : (xs : List ℕ) (i : ℕ) → slice_range xs i (i + 0) ≡ []
no_part xs i = grind (arith, common_steps)

-- a filled-in value, as an event
pub filled_value : (ask : List ℕ → Answer → Type 0) (source output : List ℕ) (e f : Event) (style : Style)
    (span : Span) (in_flow : Bool) (indent : ℕ) (other_style : Style) (other : Span) (other_indent : ℕ)
    → e ≡ Value style span in_flow indent → f ≡ Value other_style other in_flow other_indent
    → IsFilledValue ask style indent (token_at source span) other_style other_indent (token_at output other)
    → IsFilledEvent ask source output e f
filled_value ask source output e f style span in_flow indent other_style other other_indent is other_is h =
    subst (λ (e : Event). IsFilledEvent ask source output e f) (sym is)
    (other_style, other, other_indent, other_is, h)

-- one more event is filled in, before the rest
pub filled_more : (ask : List ℕ → Answer → Type 0) (source output : List ℕ) (at : Positions) (e f : Event)
    (after : Positions) (es fs : List Event) → IsFilledTo ask source output at e f after
    → AreFilled ask source output after.source after.output es fs
    → AreFilled ask source output at.source at.output (e ∷ es) (f ∷ fs)
filled_more ask source output at e f after es fs h rest = (
  f,
  fs,
  refl,
  h.event,
  h.before,
  (
    h.rest,
    subst (λ (i : ℕ).
        AreFilled ask source output i (end_of at.output f + length (rest_of_value source e f)) es fs)
        h.source_end (subst (λ (j : ℕ). AreFilled ask source output after.source j es fs) h.output_end rest),
  ),
)

-- a text whose values are unchanged is its own output
stays_event : (ask : List ℕ → Answer → Type 0) (text : List ℕ) (e : Event) → StaysAt ask text e
    → IsFilledEvent ask text text e e
stays_event ask text (Value style span in_flow indent) h =
    (style, span, indent, refl, inl (refl, refl, refl, h))
stays_event ask text Document h = refl
stays_event ask text (Item depth) h = refl
stays_event ask text (Key depth style span) h = (span, refl, refl)
stays_event ask text (Open bracket) h = refl
stays_event ask text (FlowKey style span) h = (span, refl, refl)
stays_event ask text Null h = refl
stays_event ask text Close h = refl

same_style : (s : Style) → is_unblocked s s ≡ false
same_style style.Plain = refl
same_style style.Single = refl
same_style style.Double = refl
same_style style.Literal = refl
same_style style.Folded = refl
same_style style.Alias = refl

no_rest : (text : List ℕ) (e : Event) → rest_of_value text e e ≡ []
no_rest text (Value style span in_flow indent) = rw (same_style style) refl
no_rest text Document = refl
no_rest text (Item depth) = refl
no_rest text (Key depth style span) = refl
no_rest text (Open bracket) = refl
no_rest text (FlowKey style span) = refl
no_rest text Null = refl
no_rest text Close = refl

pub all_stay : (ask : List ℕ → Answer → Type 0) (text : List ℕ) (i : ℕ) (es : List Event)
    → AllStay ask text es
    → AreFilled ask text text i i es es
all_stay ask text i [] h = (refl, refl)
all_stay ask text i (e ∷ es) h = (
  e,
  es,
  refl,
  stays_event ask text e h.0,
  refl,
  (
    rw (no_rest text e) (no_part text (end_of i e)),
    rw (no_rest text e) (subst (λ (j : ℕ). AreFilled ask text text (end_of i e) j es es) (omega arith)
        (all_stay ask text (end_of i e) es h.1)),
  ),
)

-- the properties of an event, or of none, that was read
pub given_event : {E : Type 0} (r : Result (Option Event) E) (read : Option (Option Event))
    (o : Option Event) (e : Event) (P : Event → Type 0) → IfOk r (λ o. IfSome o P)
    → IfSome read (λ v. r ≡ Ok v) → read ≡ Some o → o ≡ Some e → P e
given_event r read o e P h is found some =
    let ok : r ≡ Ok o = rw found at is in rw some at (rw ok at h)

pub given_end : {E : Type 0} (r : Result (Option Event) E) (read : Option (Option Event))
    (o : Option Event) (P : Type 0) → IfOk r (λ o. IfNone o P)
    → IfSome read (λ v. r ≡ Ok v) → read ≡ Some o → o ≡ None → P
given_end r read o P h is found none =
    let ok : r ≡ Ok o = rw found at is in rw none at (rw ok at h)

-- A comparison has reached the events `later`, and `others` of the output. If `others` are `later` filled in,
-- all events of the output are the source's, filled in.
pub record Comparing (ask : List ℕ → Answer → Type 0) (source output : List ℕ)
    (all all_others later others : Option (List Event)) (at : Positions) : Type 0 where
  pub gone : List Event
  pub gone_others : List Event
  pub events : all ≡ option_map (λ es. gone ++ es) later
  pub others_is : all_others ≡ option_map (λ es. gone_others ++ es) others
  pub filled : (es fs : List Event) → AreFilled ask source output at.source at.output es fs
      → AreFilled ask source output 0 0 (gone ++ es) (gone_others ++ fs)

map_nothing : (o : Option (List Event)) → o ≡ option_map (λ (es : List Event). [] ++ es) o
map_nothing None = refl
map_nothing (Some es) = refl

pub map_more : (gone : List Event) (e : Event) (o : Option (List Event))
    → option_map (λ (es : List Event). gone ++ es) (option_map (λ (es : List Event). e ∷ es) o)
    ≡ option_map (λ (es : List Event). (gone ++ e ∷ []) ++ es) o
map_more gone e None = refl
map_more gone e (Some es) = ap Some (sym (append_assoc gone (e ∷ []) es))

module _ (ask : List ℕ → Answer → Type 0) (source output : List ℕ) (all all_others : Option (List Event)) where
  pub compare_all : (at : Positions) → at.source ≡ 0 → at.output ≡ 0
      → Comparing ask source output all all_others all all_others at
  compare_all at i j = record {
    gone = [];
    gone_others = [];
    events = map_nothing all;
    others_is = map_nothing all_others;
    filled = λ es fs h. rw (i, j) at h;
  }

  -- one more event is filled in
  pub compare_more : (later others after others_after : Option (List Event)) (at next : Positions) (e f : Event)
      → Comparing ask source output all all_others later others at
      → later ≡ option_map (λ (es : List Event). e ∷ es) after
      → others ≡ option_map (λ (es : List Event). f ∷ es) others_after
      → IsFilledTo ask source output at e f next
      → Comparing ask source output all all_others after others_after next
  compare_more later others after others_after at next e f h is other_is filled = record {
    gone = h.gone ++ e ∷ [];
    gone_others = h.gone_others ++ f ∷ [];
    events = h.events ∙ rw is (map_more h.gone e after);
    others_is = h.others_is ∙ rw other_is (map_more h.gone_others f others_after);
    filled = λ es fs rest. rw (append_assoc h.gone (e ∷ []) es, append_assoc h.gone_others (f ∷ []) fs)
        (h.filled (e ∷ es) (f ∷ fs) (filled_more ask source output at e f next es fs filled rest));
  }

  -- both texts are at their ends
  pub compare_end : (later others : Option (List Event)) (at : Positions)
      → Comparing ask source output all all_others later others at → later ≡ Some [] → others ≡ Some []
      → drop at.output output ≡ drop at.source source
      → (es fs : List Event) × (all ≡ Some es) × (all_others ≡ Some fs) × AreFilled ask source output 0 0 es fs
  compare_end later others at h ends others_end same = (
    h.gone ++ [],
    h.gone_others ++ [],
    h.events ∙ rw ends refl,
    h.others_is ∙ rw others_end refl,
    h.filled [] [] (refl, same),
  )
