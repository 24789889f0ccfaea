-- The strings of a text with their spans and paths, and the refused ones.
use Rattle.std.proofs.Common.{◌≡◌, ◌<◌, ℕ, ◌+◌, min, Bool, true, false, List, [], ◌∷◌, ◌++◌, drop, length, get_or, map, Option, Some, None, inl, inr, refl, sym, ap, ap₂, ◌∙◌, subst, append_assoc, arith, string_bytes}
use Rattle.std.proofs.lemmas.Grind.{common_steps}
use Rattle.std.proofs.lemmas.List.{drop_more, map-append}
use Rattle.std.proofs.lemmas.List.Elements.{Contains-append_right}
use Rattle.std.specs.List.{slice_range, AllByRecursion, Contains}
use Rattle.std.specs.Option.{IsSomeAnd}
use Rattle.subst_error.specs.ErrorFault.{error_fault}
use Rattle.subst_error.specs.Fault.{Fault}
use Rattle.subst_error.specs.Range.{range_of, IsRangeIn}
use Rattle.subst_language.specs.Language.Answer.{Answer, Gives, Refuses}
use Rattle.subst_language.proofs.Language.ListLemmas.{each_weaker}
use Rattle.subst_document.specs.Edits.{text_at}
use Rattle.subst_document.specs.declared.edits.StringAt.{StringAt}
use Rattle.subst_yaml_reader.specs.Reading.{read}
use Rattle.subst_yaml_reader.specs.declared.event.Event.{Event}
use Rattle.subst_yaml_reader.specs.declared.event.Event.TheVariants.{Document, Item, Key, Value, Open, FlowKey, Null, Close}
use Rattle.subst_yaml_reader.specs.declared.event.Span.{Span}
use Rattle.subst_yaml_reader.specs.declared.event.Style.{Style}
use Rattle.subst_yaml.specs.Filled.{may_change, string_of, strings_at, strings_if, strings_in, strings_of, token_at}
use Rattle.subst_yaml.specs.Listed.{found_at, found_in, found_of, range_in, spelled_at, spelled_in, spelled_of, AreAllRefused, AreRefusalsOf, Found, IsListing, IsRefusalOf, IsSpelledAt, RefusalAt, Spelled}
use Rattle.subst_yaml.specs.Paths.{after_event, path_at, start, Path, Trail}

-- a property of each element of two lists holds for each of their concatenation
all_append : {X : Type 0} (P : X → Type 0) (xs ys : List X) → AllByRecursion P xs → AllByRecursion P ys
    → AllByRecursion P (xs ++ ys)
all_append P [] ys h k = k
all_append P (x ∷ xs) ys h k = (h.0, all_append P xs ys h.1 k)

-- a property of the images of all elements holds for the mapped list
all_mapped : {X Y : Type 0} (f : X → Y) (P : Y → Type 0) (xs : List X) → AllByRecursion (λ x. P (f x)) xs
    → AllByRecursion P (map f xs)
all_mapped f P [] h = tt
all_mapped f P (x ∷ xs) h = (h.0, all_mapped f P xs h.1)

all_of_mapped : {X Y : Type 0} (f : X → Y) (P : Y → Type 0) (xs : List X) → AllByRecursion P (map f xs)
    → AllByRecursion (λ x. P (f x)) xs
all_of_mapped f P [] h = tt
all_of_mapped f P (x ∷ xs) h = (h.0, all_of_mapped f P xs h.1)

all_both : {X : Type 0} (P Q : X → Type 0) (xs : List X) → AllByRecursion P xs → AllByRecursion Q xs
    → AllByRecursion (λ x. P x × Q x) xs
all_both P Q [] h k = tt
all_both P Q (x ∷ xs) h k = ((h.0, k.0), all_both P Q xs h.1 k.1)

-- a list contains its elements
all_contained : {X : Type 0} (xs ys : List X) → AllByRecursion (Contains (xs ++ ys)) ys
all_contained xs [] = tt
all_contained xs (y ∷ ys) = (
  Contains-append_right xs (y ∷ ys) y (0, omega arith, refl),
  subst (λ whole. AllByRecursion (Contains whole) ys) (append_assoc xs (y ∷ []) ys)
      (all_contained (xs ++ y ∷ []) ys),
)

-- a range that is cut at the end of the text has the same bytes
same_bytes : (text : List ℕ) (from to : ℕ)
    → slice_range text (min from (min to (length text))) (min to (length text)) ≡ slice_range text from to
same_bytes text from to = grind (arith, common_steps)

module _ (text : List ℕ) where
  -- a string at a span
  abbrev spelled : Span → List ℕ → Spelled
  spelled span x = record { text = x; span = range_in text span }

  abbrev text_in : Spelled → List ℕ
  text_in it = it.text

  -- the strings of a value without their spans
  texts_back : (span : Span) (xs : List (List ℕ)) → map text_in (map (spelled span) xs) ≡ xs
  texts_back span [] = refl
  texts_back span (x ∷ xs) = ap (λ rest. x ∷ rest) (texts_back span xs)

  texts_at : (e : Event) → map text_in (spelled_at text e) ≡ strings_at text e
  texts_at Document = refl
  texts_at (Item depth) = refl
  texts_at (Key depth style span) = refl
  texts_at (Value style span in_flow indent) = texts_back span (strings_of style indent (token_at text span))
  texts_at (Open bracket) = refl
  texts_at (FlowKey style span) = refl
  texts_at Null = refl
  texts_at Close = refl

  texts_in : (es : List Event) → map text_in (spelled_in text es) ≡ strings_in text es
  texts_in [] = refl
  texts_in (e ∷ es) = map-append text_in (spelled_at text e) (spelled_in text es)
      ∙ ap₂ (λ xs ys. xs ++ ys) (texts_at e) (texts_in es)

  -- each string is at its span
  abbrev IsThere : Spelled → Type 0
  IsThere it = IsSpelledAt text it.span it.text

  abbrev IsFoundThere : Found → Type 0
  IsFoundThere it = IsSpelledAt text it.span it.text

  -- the string with a path, and without one
  abbrev pub with_path : Path → Spelled → Found
  with_path path it = record { text = it.text; span = it.span; path = path }

  abbrev pub without_path : Found → Spelled
  without_path it = record { text = it.text; span = it.span }

  there_if : (style : Style) (indent : ℕ) (span : Span) (marked : Bool) (value : Option (List ℕ))
      → may_change style (token_at text span) ≡ marked
      → string_of style indent (token_at text span) ≡ value
      → AllByRecursion IsThere (map (spelled span) (strings_if marked value))
  there_if style indent span true (Some x) marked is = (
    record {
      forwards = omega arith;
      within = omega arith;
      token = subst (λ token. (style : Style) × (indent : ℕ) × (may_change style token ≡ true)
          × (string_of style indent token ≡ Some x)) (sym (same_bytes text span.start span.«end»))
          (style, indent, marked, is);
    },
    tt,
  )
  there_if style indent span true None marked is = tt
  there_if style indent span false value marked is = tt

  there_at : (e : Event) → AllByRecursion IsThere (spelled_at text e)
  there_at Document = tt
  there_at (Item depth) = tt
  there_at (Key depth style span) = tt
  there_at (Value style span in_flow indent) = there_if style indent span
      (may_change style (token_at text span)) (string_of style indent (token_at text span)) refl refl
  there_at (Open bracket) = tt
  there_at (FlowKey style span) = tt
  there_at Null = tt
  there_at Close = tt

  there_in : (es : List Event) → AllByRecursion IsThere (spelled_in text es)
  there_in [] = tt
  there_in (e ∷ es) = all_append IsThere (spelled_at text e) (spelled_in text es) (there_at e) (there_in es)

  -- the strings of the text with their spans are a listing
  pub listing_of : (es : List Event) (list : List StringAt) → read text ≡ Some es
      → map spelled_of list ≡ spelled_in text es → IsListing text list
  listing_of es list reads each = record {
    all = (es, reads, texts_of list ∙ ap (map text_in) each ∙ texts_in es);
    each = (es, reads, each);
    spelled = all_of_mapped spelled_of IsThere list
        (subst (AllByRecursion IsThere) (sym each) (there_in es));
  }
    where
      texts_of : (list : List StringAt) → map text_at list ≡ map text_in (map spelled_of list)
      texts_of [] = refl
      texts_of (it ∷ list) = ap (λ rest. text_at it ∷ rest) (texts_of list)

  -- each string with its path is at its span
  found_there_at : (path : Path) (list : List Spelled) → AllByRecursion IsThere list
      → AllByRecursion IsFoundThere (map (with_path path) list)
  found_there_at path list h = all_mapped (with_path path) IsFoundThere list h

  found_there : (trail : Trail) (es : List Event) → AllByRecursion IsFoundThere (found_in text trail es)
  found_there trail [] = tt
  found_there trail (e ∷ es) =
      all_append IsFoundThere (found_at text trail e) (found_in text (after_event trail e) es)
      (found_there_at (path_at text trail) (spelled_at text e) (there_at e)) (found_there (after_event trail e) es)

  -- without their paths, they are the strings of the text with their spans
  pub found_are_spelled : (trail : Trail) (es : List Event)
      → map without_path (found_in text trail es) ≡ spelled_in text es
  found_are_spelled trail [] = refl
  found_are_spelled trail (e ∷ es) =
      map-append without_path (found_at text trail e) (found_in text (after_event trail e) es)
      ∙ ap₂ (λ xs ys. xs ++ ys) (paths_taken (path_at text trail) (spelled_at text e))
      (found_are_spelled (after_event trail e) es)
    where
      paths_taken : (path : Path) (list : List Spelled) → map without_path (map (with_path path) list) ≡ list
      paths_taken path [] = refl
      paths_taken path (it ∷ list) = ap (λ rest. it ∷ rest) (paths_taken path list)

module _ (ask : List ℕ → Answer → Type 0) where
  -- the refusals of two lists are concatenated
  pub refused_then : (xs ys : List Found) (first then : List RefusalAt) → AreRefusalsOf ask xs first
      → AreRefusalsOf ask ys then → AreRefusalsOf ask (xs ++ ys) (first ++ then)
  refused_then [] ys first then none h =
      subst (λ (all : List RefusalAt). AreRefusalsOf ask ys (all ++ then)) (sym none) h
  refused_then (x ∷ xs) ys first then (inl (gives, rest)) h =
      inl (gives, refused_then xs ys first then rest h)
  refused_then (x ∷ xs) ys first then (inr (refusal, more, is, r, rest)) h =
      inr (refusal, more ++ then, ap (λ all. all ++ then) is, r, refused_then xs ys more then rest h)

  -- a property of each string of a list holds for each refused one, and the range of its fault is within it
  refused_are : (P : Found → Type 0) (list : List Found) (all : List RefusalAt) → AllByRecursion P list
      → AreRefusalsOf ask list all
      → AllByRecursion (λ it. P (found_of it) × IsRangeIn (string_bytes it.text) (range_of (error_fault it.error)))
      all
  refused_are P [] all h none = subst (AllByRecursion (λ it. P (found_of it)
      × IsRangeIn (string_bytes it.text) (range_of (error_fault it.error)))) (sym none) tt
  refused_are P (x ∷ list) all h (inl (gives, rest)) = refused_are P list all h.1 rest
  refused_are P (x ∷ list) all h (inr (refusal, more, is, r, rest)) =
      subst (AllByRecursion (λ it. P (found_of it)
      × IsRangeIn (string_bytes it.text) (range_of (error_fault it.error)))) (sym is) (
        (
          subst P (sym r.string) h.0,
          subst (λ (x : Found). IsRangeIn x.text (range_of (error_fault refusal.error))) (sym r.string) r.range,
        ),
        refused_are P list more h.1 rest,
      )

  -- one more event
  pub refused_next : (text : List ℕ) (events : List Event) (i : ℕ) (trail next : Trail)
      (added more : List RefusalAt) → i < length events → next ≡ after_event trail (get_or events i Document)
      → AreRefusalsOf ask (found_at text trail (get_or events i Document)) added
      → AreRefusalsOf ask (found_in text next (drop (i + 1) events)) more
      → AreRefusalsOf ask (found_in text trail (drop i events)) (added ++ more)
  refused_next text events i trail next added more within is are h =
      let e = get_or events i Document in
      let rest = drop (i + 1) events in
      subst (λ (es : List Event). AreRefusalsOf ask (found_in text trail es) (added ++ more))
      (sym (drop_more events i Document within))
      (refused_then (found_at text trail e) (found_in text (after_event trail e) rest) added more are
      (subst (λ (t : Trail). AreRefusalsOf ask (found_in text t rest) more) is h))

  -- the string of an event isn't refused
  pub none_refused : (text : List ℕ) (trail : Trail) (e : Event) (it : StringAt)
      → map spelled_of (it ∷ []) ≡ spelled_at text e → ((x : List ℕ) × ask (text_at it) (Gives x))
      → AreRefusalsOf ask (found_at text trail e) []
  none_refused text trail e it is gives =
      subst (λ (list : List Spelled). AreRefusalsOf ask (map (with_path text (path_at text trail)) list) []) is
      (inl (gives, refl))

  -- the string of an event is refused
  pub one_refused : (text : List ℕ) (trail : Trail) (e : Event) (it : StringAt) (refusal : RefusalAt)
      → map spelled_of (it ∷ []) ≡ spelled_at text e
      → found_of refusal ≡ with_path text (path_at text trail) (spelled_of it)
      → IsSomeAnd (error_fault refusal.error) (λ f. ask (text_at it) (Refuses f))
      → IsRangeIn (text_at it) (range_of (error_fault refusal.error))
      → AreRefusalsOf ask (found_at text trail e) (refusal ∷ [])
  one_refused text trail e it refusal is same refused range =
      subst (λ (list : List Spelled). AreRefusalsOf ask (map (with_path text (path_at text trail)) list)
      (refusal ∷ [])) is (inr (refusal, [], refl, by_fault (error_fault refusal.error) refl refused, refl))
    where
      by_fault : (fault : Option Fault) → error_fault refusal.error ≡ fault
          → IsSomeAnd fault (λ f. ask (text_at it) (Refuses f))
          → IsRefusalOf ask (with_path text (path_at text trail) (spelled_of it)) refusal
      by_fault (Some f) known refused = record {
        string = same;
        fault = f;
        fault_is = known;
        refused = refused;
        range = range;
      }
      by_fault None known refused = absurd refused

  -- the refusals of the strings of the text are all refusals
  pub all_refused : (text : List ℕ) (es : List Event) (all : List RefusalAt) → read text ≡ Some es
      → AreRefusalsOf ask (found_in text start es) all → AreAllRefused ask text all
  all_refused text es all reads are =
      let whole = found_in text start es in
      record {
        each = (es, reads, are);
        stand = each_weaker _ _ (λ it h. record {
          spelled = h.0.0;
          leads = (es, reads, (it.span, h.0.1));
          range = h.1;
        }) all (refused_are (λ it. IsSpelledAt text it.span it.text × Contains whole it) whole all
            (all_both (λ it. IsSpelledAt text it.span it.text) (Contains whole) whole (found_there text start es)
            (all_contained [] whole)) are);
      }
