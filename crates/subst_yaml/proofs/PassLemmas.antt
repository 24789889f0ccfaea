-- A pass over the events of a text. `ask` relates a string to its answers.
use Rattle.std.proofs.Common.{◌≡◌, ℕ, Bool, true, false, ◌||◌, List, [], ◌∷◌, ◌++◌, Option, Some, None, IfSome, Result, Ok, Err, inl, refl, sym, ap, ◌∙◌, subst, append_assoc, append-nil, option_map}
use Rattle.std.proofs.lemmas.Option.{IfSome_then}
use Rattle.std.specs.Result.{IsErrAnd}
use Rattle.subst_error.specs.ErrorFault.{error_fault}
use Rattle.subst_error.specs.Fault as substituting
use Rattle.subst_error.specs.declared.Error as refusing
use Rattle.subst_language.specs.Language.Answer.{Answer, Gives, Refuses}
use Rattle.subst_language.specs.Language.Several.{AreGiven, GivesBy, RefusesFirst}
use Rattle.subst_language.proofs.Language.SeveralLemmas.{given_append, refusal_alone, refusal_after, refusal_before}
use Rattle.subst_document.specs.Stays.{SomeChanges}
use Rattle.subst_document.proofs.StaysLemmas.{some_after, some_before}
use Rattle.subst_yaml_reader.specs.Reading.{read}
use Rattle.subst_yaml_reader.specs.Refusal.{IsInside, IsRefused}
use Rattle.subst_yaml_reader.specs.declared.error.Error as reading
use Rattle.subst_yaml_reader.specs.declared.event.Event.{Event}
use Rattle.subst_yaml_reader.specs.declared.event.Event.TheVariants.{Document, Item, Key, Value, Open, FlowKey, Null, Close}
use Rattle.subst_yaml_reader.specs.declared.event.Style.{Style}
use Rattle.subst_yaml.specs.Errors.{IsOfReader, IsOfSubstitution}
use Rattle.subst_yaml.specs.Filled.{may_change, string_of, strings_at, strings_if, strings_in, strings_of, token_at, Changes, Stays}
use Rattle.subst_yaml.specs.Filled.Stays.{fixed, itself, none}
use Rattle.subst_yaml.specs.InPlace.{Holds}
use Rattle.subst_yaml.specs.Outcome.{IfYaml, OnSubst, ReadsAs}
use Rattle.subst_yaml.specs.Passes.{AllStay, ChangesAt, StaysAt, TellsChange}
use Rattle.subst_yaml.specs.declared.error.Error.{Error}
use Rattle.subst_yaml.specs.declared.error.Error.TheVariants.{Yaml, Subst, OutOfMemory}

-- a property of the fault of a string, if that is the error
pub refused_as : {T : Type 0} (P : substituting.Fault → Type 0) (e : refusing.Error) (result : Result T Error)
    → IsErrAnd result (IsOfSubstitution e) → IfSome (error_fault e) P → OnSubst result P
refused_as P e (Ok value) is h = tt
refused_as P e (Err (Yaml d)) is h = tt
refused_as P e (Err (Subst d)) is h = rw is.0 h
refused_as P e (Err (OutOfMemory d)) is h = tt

-- a weaker property of an error
pub OnSubst-weaker : (T U : Type 0) (P Q : substituting.Fault → Type 0)
    → ((f : substituting.Fault) → P f → Q f) → (e : Error) → OnSubst {T = T} (Err e) P
    → OnSubst {T = U} (Err e) Q
OnSubst-weaker T U P Q weaker (Yaml fault) h = tt
OnSubst-weaker T U P Q weaker (Subst e) h = IfSome_then (error_fault e) h weaker
OnSubst-weaker T U P Q weaker (OutOfMemory e) h = tt

module _ (ask : List ℕ → Answer → Type 0) where
  -- the only string of a value is refused
  pub first_of_value : (style : Style) (indent : ℕ) (token : List ℕ) (f : substituting.Fault)
      → ((x : List ℕ) × (strings_of style indent token ≡ x ∷ []) × ask x (Refuses f))
      → RefusesFirst ask (strings_of style indent token) f
  first_of_value style indent token f (x, is, refused) =
      subst (λ (xs : List (List ℕ)). RefusesFirst ask xs f) (sym is) (refusal_alone ask x f refused)

  -- the string of an unchanged value is unchanged
  given_if : (marked : Bool) (value : Option (List ℕ)) → ((x : List ℕ) → value ≡ Some x
      → AreGiven ask (x ∷ []))
      → AreGiven ask (strings_if marked value)
  given_if true (Some x) given = given x refl
  given_if true None given = ([], tt)
  given_if false value given = ([], tt)

  given_value : (style : Style) (indent : ℕ) (token : List ℕ) → Stays ask style indent token
      → AreGiven ask (strings_of style indent token)
  given_value style indent token (fixed h) =
      subst (λ (marked : Bool). AreGiven ask (strings_if marked (string_of style indent token))) (sym h)
      ([], tt)
  given_value style indent token (itself x is h) =
      given_if (may_change style token) (string_of style indent token)
      (λ y other. let one : x ≡ y = cc in (x ∷ [], (subst (λ (z : List ℕ). ask z (Gives x)) one h, tt)))
  given_value style indent token (none h) =
      given_if (may_change style token) (string_of style indent token)
      (λ y other. absurd (let no : None ≡ Some y = sym h ∙ other in cc))

  -- the string of a value that changes becomes another one
  one_string : (style : Style) (indent : ℕ) (token y : List ℕ) (h : Changes ask style indent token y)
      → strings_of style indent token ≡ h.string ∷ []
  one_string style indent token y h = ap (λ marked. strings_if marked (string_of style indent token)) h.marked
      ∙ ap (strings_if true) h.read

  given_change : (style : Style) (indent : ℕ) (token y : List ℕ) → Changes ask style indent token y
      → AreGiven ask (strings_of style indent token)
  given_change style indent token y h =
      subst (λ (xs : List (List ℕ)). AreGiven ask xs) (sym (one_string style indent token y h)) (
        y ∷ [],
        (h.gives, tt),
      )

  some_change : (style : Style) (indent : ℕ) (token y : List ℕ) → Changes ask style indent token y
      → SomeChanges (GivesBy ask) (strings_of style indent token)
  some_change style indent token y h =
      subst (λ (xs : List (List ℕ)). SomeChanges (GivesBy ask) xs) (sym (one_string style indent token y h))
      (inl (y, h.gives, h.other))

  -- the strings of an event that stays or changes
  given_at : (text : List ℕ) (e : Event) (tells : Bool) → TellsChange ask text e tells
      → AreGiven ask (strings_at text e)
  given_at text (Value style span in_flow indent) true (y, h) = given_change style indent
      (token_at text span) y h
  given_at text (Value style span in_flow indent) false h = given_value style indent (token_at text span) h
  given_at text Document tells h = ([], tt)
  given_at text (Item depth) tells h = ([], tt)
  given_at text (Key depth style span) tells h = ([], tt)
  given_at text (Open bracket) tells h = ([], tt)
  given_at text (FlowKey style span) tells h = ([], tt)
  given_at text Null tells h = ([], tt)
  given_at text Close tells h = ([], tt)

  some_at : (text : List ℕ) (e : Event) → ChangesAt ask text e → SomeChanges (GivesBy ask) (strings_at text e)
  some_at text (Value style span in_flow indent) (y, h) = some_change style indent (token_at text span) y h
  some_at text Document h = absurd h
  some_at text (Item depth) h = absurd h
  some_at text (Key depth style span) h = absurd h
  some_at text (Open bracket) h = absurd h
  some_at text (FlowKey style span) h = absurd h
  some_at text Null h = absurd h
  some_at text Close h = absurd h

  -- strings of concatenated events
  pub strings_append : (text : List ℕ) (es fs : List Event)
      → strings_in text (es ++ fs) ≡ strings_in text es ++ strings_in text fs
  strings_append text [] fs = refl
  strings_append text (e ∷ es) fs = ap (λ (xs : List (List ℕ)). strings_at text e ++ xs)
      (strings_append text es fs)
      ∙ sym (append_assoc (strings_at text e) (strings_in text es) (strings_in text fs))

  -- the strings of one more event
  strings_more : (text : List ℕ) (es : List Event) (e : Event)
      → strings_in text (es ++ e ∷ []) ≡ strings_in text es ++ strings_at text e
  strings_more text es e = strings_append text es (e ∷ [])
      ∙ ap (λ (xs : List (List ℕ)). strings_in text es ++ xs) (append-nil (strings_at text e))

  stay_more : (text : List ℕ) (es : List Event) (e : Event) → AllStay ask text es → StaysAt ask text e
      → AllStay ask text (es ++ e ∷ [])
  stay_more text [] e h one = (one, tt)
  stay_more text (x ∷ es) e h one = (h.0, stay_more text es e h.1 one)

  -- A pass over the events of a text has reached `later`, and has found whether some value changes.
  pub record Passing (source text : List ℕ) (later : Option (List Event)) (is_changed : Bool) : Type 0 where
    pub gone : List Event
    pub text_is : text ≡ source
    pub all : read source ≡ option_map (λ es. gone ++ es) later
    pub given : AreGiven ask (strings_in source gone)
    pub change : is_changed ≡ true → SomeChanges (GivesBy ask) (strings_in source gone)
    pub stay : is_changed ≡ false → AllStay ask source gone

  pub begin : (source text : List ℕ) (later : Option (List Event)) → text ≡ source → later ≡ read source
      → Passing source text later false
  begin source text later same is = record {
    gone = [];
    text_is = same;
    all = sym is ∙ sym (map_nothing later);
    given = ([], tt);
    change = λ no. absurd (let e : false ≡ true = no in cc);
    stay = λ _. tt;
  }
    where
      map_nothing : (o : Option (List Event)) → option_map (λ (es : List Event). [] ++ es) o ≡ o
      map_nothing None = refl
      map_nothing (Some es) = refl

  map_more : (gone : List Event) (e : Event) (o : Option (List Event))
      → option_map (λ (es : List Event). gone ++ es) (option_map (λ (es : List Event). e ∷ es) o)
      ≡ option_map (λ (es : List Event). (gone ++ e ∷ []) ++ es) o
  map_more gone e None = refl
  map_more gone e (Some es) = ap Some (sym (append_assoc gone (e ∷ []) es))

  -- one more event is unchanged or changes
  pub pass_more : (source text text_after : List ℕ) (later after : Option (List Event)) (e : Event)
      (is_changed tells : Bool)
      → Passing source text later is_changed → later ≡ option_map (λ (es : List Event). e ∷ es) after
      → text_after ≡ text → TellsChange ask source e tells
      → Passing source text_after after (is_changed || tells)
  pass_more source text text_after later after e is_changed tells h next same told = record {
    gone = h.gone ++ e ∷ [];
    text_is = same ∙ h.text_is;
    all = h.all ∙ ap (λ (o : Option (List Event)). option_map (λ (es : List Event). h.gone ++ es) o) next
        ∙ map_more h.gone e after;
    given = subst (λ (xs : List (List ℕ)). AreGiven ask xs) (sym (strings_more source h.gone e))
        (given_append ask (strings_in source h.gone) (strings_at source e) h.given
        (given_at source e tells told));
    change = λ is. subst (λ (xs : List (List ℕ)). SomeChanges (GivesBy ask) xs)
        (sym (strings_more source h.gone e)) (changed is_changed tells h.change told is);
    stay = stayed is_changed tells h.stay told;
  }
    where
      changed : (a b : Bool) → (a ≡ true → SomeChanges (GivesBy ask) (strings_in source h.gone))
          → TellsChange ask source e b
          → (a || b) ≡ true → SomeChanges (GivesBy ask) (strings_in source h.gone ++ strings_at source e)
      changed true b some told is =
          some_before (GivesBy ask) (strings_in source h.gone) (strings_at source e) (some refl)
      changed false true some told is =
          some_after (GivesBy ask) (strings_in source h.gone) (strings_at source e) (some_at source e told)
      changed false false some told is = absurd (let no : false ≡ true = is in cc)

      stayed : (a b : Bool) → (a ≡ false → AllStay ask source h.gone)
          → TellsChange ask source e b → (a || b) ≡ false → AllStay ask source (h.gone ++ e ∷ [])
      stayed false false stay told is = stay_more source h.gone e (stay refl) told
      stayed false true stay told is = absurd (let no : true ≡ false = is in cc)
      stayed true b stay told is = absurd (let no : true ≡ false = is in cc)

  -- the first refusal is that of the next event, and the text is read to its end
  pub string_refused : (source text : List ℕ) (later after : Option (List Event)) (e : Event)
      (is_changed : Bool)
      → Passing source text later is_changed → later ≡ option_map (λ (es : List Event). e ∷ es) after
      → ((es : List Event) × (after ≡ Some es)) → (f : substituting.Fault)
      → RefusesFirst ask (strings_at source e) f
      → ReadsAs source (λ es. RefusesFirst ask (strings_in source es) f)
  string_refused source text later after e is_changed h next (es, ends) f first = (
    h.gone ++ e ∷ es,
    h.all ∙ rw next (rw ends refl),
    subst (λ (xs : List (List ℕ)). RefusesFirst ask xs f) (sym (strings_append source h.gone (e ∷ es)))
        (refusal_after ask (strings_in source h.gone) (strings_at source e ++ strings_in source es) f h.given
        (refusal_before ask (strings_at source e) (strings_in source es) f first)),
  )

  -- the pass is over
  all_gone : (source text : List ℕ) (later : Option (List Event)) (is_changed : Bool)
      (h : Passing source text later is_changed) → later ≡ Some [] → read source ≡ Some h.gone
  all_gone source text later is_changed h ends = h.all ∙ rw ends (ap Some (append-nil h.gone))

  pub some_changed : (source text : List ℕ) (later : Option (List Event)) (is_changed : Bool)
      → Passing source text later is_changed → later ≡ Some [] → is_changed ≡ true
      → ReadsAs source (λ es. SomeChanges (GivesBy ask) (strings_in source es))
  some_changed source text later is_changed h ends is =
      (h.gone, all_gone source text later is_changed h ends, h.change is)

  pub all_stayed : (source text : List ℕ) (later : Option (List Event)) (is_changed : Bool)
      → Passing source text later is_changed → later ≡ Some [] → is_changed ≡ false
      → ReadsAs source (AllStay ask source)
  all_stayed source text later is_changed h ends is =
      (h.gone, all_gone source text later is_changed h ends, h.stay is)

  -- the text is refused
  pub text_refused : (source text : List ℕ) (later : Option (List Event)) (is_changed : Bool)
      (error : reading.Error)
      → Passing source text later is_changed → IsRefused error text later
      → IsRefused error source (read source)
  text_refused source text later is_changed (reading.TheVariants.Refused fault) h refused = (
    h.all ∙ rw refused.0 refl,
    subst (λ (t : List ℕ). IsInside (reading.TheVariants.Refused fault) t) h.text_is refused.1,
  )
  text_refused source text later is_changed reading.TheVariants.OutOfMemory h refused = tt

  -- the result of a call if the text is refused
  pub refused_text : {T : Type 0} (source : List ℕ) (error : reading.Error) (result : Result T Error)
      → IsRefused error source (read source) → IsErrAnd result (IsOfReader error)
      → IfYaml result (Holds source)
  refused_text source error (Ok value) refused is = tt
  refused_text source (reading.TheVariants.Refused fault) (Err e) refused is = rw is refused.0
  refused_text source reading.TheVariants.OutOfMemory (Err (Yaml fault)) refused is = absurd is
  refused_text source reading.TheVariants.OutOfMemory (Err (Subst e)) refused is = tt
  refused_text source reading.TheVariants.OutOfMemory (Err (OutOfMemory e)) refused is = tt
