-- Refused strings of a text with their spans and paths.
use Rattle.std.proofs.Common.{◌≡◌, ℕ, ◌+◌, ◌≤◌, List, [], ◌∷◌, ◌++◌, length, map, reverse, Some, inl, inr, refl, sym, ap, ap₂, ◌∙◌, subst, arith, append_assoc, append-nil, string_bytes}
use Rattle.std.proofs.lemmas.List.{map-append, length-append, length-map}
use Rattle.std.specs.List.{slice_get, slice_range}
use Rattle.std.specs.declared.ops.Range.{Range}
use Rattle.json.specs.Lex.{tokens}
use Rattle.json.specs.Token.{Token, begin_object, end_object, begin_array, end_array, key, string, number, boolean, null, bad}
use Rattle.subst_error.specs.Range.{IsRangeIn}
use Rattle.subst_language.specs.Language.Answer.{Answer, Gives, Refuses}
use Rattle.subst_document.specs.Edits.{text_at, AreSpelled}
use Rattle.subst_document.specs.Paths.{PathStep, Located, AreRefusals, step_of}
use Rattle.subst_document.specs.Refused.{AreRefusedOf, ArePathsTo, HasRangeInText}
use Rattle.subst_document.specs.declared.edits.RefusalAt as found
use Rattle.subst_document.specs.declared.edits.StringAt.{StringAt}
use Rattle.subst_document.specs.declared.path_step.PathStep as steps
use Rattle.subst_document.proofs.RefusalLemmas.{pushed_step}
use Rattle.subst_document.proofs.RefusedLemmas.{ranges_within}
use Rattle.subst_json.specs.Filled.{strings_in, strings_of_token, IsStringToken}
use Rattle.subst_json.specs.Listed.{located, located_at, located_in, past_token, past_value, refusal_at, string_of, AreAllRefused, AreRefused, IsCollected, IsPathTo, RefusalAt}
use Rattle.subst_json.specs.Paths.{steps_of}
use Rattle.subst_json.specs.declared.path.Path.{Path}

-- the path of these steps, with its last step first
abbrev pub path_of : List steps.PathStep → List PathStep
path_of items = reverse (map step_of items)

pub nothing_popped : (old new : List steps.PathStep) → old ≡ new ++ [] → length old ≡ 0
    → path_of new ≡ past_value (path_of old)
nothing_popped [] new is none = ap path_of (sym (append-nil new) ∙ sym is)
nothing_popped (x ∷ old) new is none = absurd (omega arith)

-- a value is passed by a replacement of the last step
pub value_passed : (front old new : List steps.PathStep) (s t : steps.PathStep) → old ≡ front ++ s ∷ []
    → new ≡ front ++ t ∷ [] → past_value (step_of s ∷ path_of front) ≡ step_of t ∷ path_of front
    → path_of new ≡ past_value (path_of old)
value_passed front old new s t was is h =
    ap path_of is ∙ pushed_step front t ∙ sym h
    ∙ sym (ap (λ xs. past_value (path_of xs)) was ∙ ap past_value (pushed_step front s))

-- strings with their paths have the same texts
texts_at : (path : List PathStep) (t : Token) → map (λ it. it.text) (located_at path t) ≡ strings_of_token t
texts_at path begin_object = refl
texts_at path end_object = refl
texts_at path begin_array = refl
texts_at path end_array = refl
texts_at path (key k) = refl
texts_at path (string s) = refl
texts_at path (number s) = refl
texts_at path (boolean b) = refl
texts_at path null = refl
texts_at path bad = refl

located_texts : (path : List PathStep) (ts : List Token)
    → map (λ it. it.text) (located_in path ts) ≡ strings_in ts
located_texts path [] = refl
located_texts path (t ∷ ts) =
    map-append (λ it. it.text) (located_at path t) (located_in (past_token t path) ts)
    ∙ ap₂ (λ xs ys. xs ++ ys) (texts_at path t) (located_texts (past_token t path) ts)

-- the element after those before it
pub slice_get-seam : {X : Type 0} (done : List X) (x : X) (left : List X)
    → slice_get (done ++ x ∷ left) (length done) ≡ Some x
slice_get-seam [] x left = refl
slice_get-seam (y ∷ done) x left = slice_get-seam done x left

-- once strings are passed, the paths so far are those of all refused strings before the remaining ones
pub collected_more : (source : List ℕ) (done left : List Located) (path : List PathStep) (strings : List (List ℕ))
    (index : ℕ) (refused rest to_come : List (found.RefusalAt ℕ)) (paths with : List Path)
    → located_in [] (tokens source) ≡ done ++ (map (located path) strings ++ left) → index ≡ length done
    → IsCollected path strings index rest to_come paths with
    → ((more : List Path) → ArePathsTo (IsPathTo source) rest more
    → ArePathsTo (IsPathTo source) refused (paths ++ more))
    → (more : List Path) → ArePathsTo (IsPathTo source) to_come more
    → ArePathsTo (IsPathTo source) refused (with ++ more)
collected_more source done left path strings index refused rest to_come paths with all at (inl (same, none)) so_far
    more h =
    subst (λ xs. ArePathsTo (IsPathTo source) refused (xs ++ more)) (sym none)
    (so_far more (subst (λ its. ArePathsTo (IsPathTo source) its more) same h))
collected_more source done left path strings index refused rest to_come paths with all at
    (inr (x, it, p, one, here, first, added, steps)) so_far more h =
    let is : map (λ it. it.path) (located_in [] (tokens source))
    ≡ map (λ it. it.path) done ++ path ∷ map (λ it. it.path) left =
    ap (map (λ it. it.path)) (all ∙ ap (λ xs. done ++ (map (located path) xs ++ left)) one)
    ∙ map-append (λ it. it.path) done (located path x ∷ left) in
    let place : it.path ≡ length (map (λ it. it.path) done) =
    here ∙ at ∙ sym (length-map done (λ (it : Located). it.path)) in
    let leads : IsPathTo source it.path p =
    ap₂ slice_get is place ∙ slice_get-seam (map (λ it. it.path) done) path (map (λ it. it.path) left)
    ∙ ap Some (sym steps) in
    subst (λ xs. ArePathsTo (IsPathTo source) refused xs)
    (sym (append_assoc paths (p ∷ []) more) ∙ ap (λ xs. xs ++ more) (sym added))
    (so_far (p ∷ more) (subst (λ its. ArePathsTo (IsPathTo source) its (p ∷ more)) (sym first) (leads, h)))

module _ (ask : List ℕ → Answer → Type 0) where
  -- refusals with paths by index are those of the strings with these paths
  refusals_of_listed : (paths done : List (List PathStep)) (index : ℕ) (list : List StringAt)
      (strings : List Located) (all : List RefusalAt) → paths ≡ done ++ map (λ it. it.path) strings
      → index ≡ length done → map text_at list ≡ map (λ it. it.text) strings
      → AreRefusedOf ask (λ i path. slice_get paths i ≡ Some (steps_of path)) index list all
      → AreRefusals ask strings (map refusal_at all)
  refusals_of_listed paths done index [] [] all is at same none = ap (map refusal_at) none
  refusals_of_listed paths done index [] (s ∷ strings) all is at same h = absurd cc
  refusals_of_listed paths done index (it ∷ list) [] all is at same h = absurd cc
  refusals_of_listed paths done index (it ∷ list) (s ∷ strings) all is at same (inl ((x, gives), h)) =
      let text : text_at it ≡ s.text = cc in
      inl (
        (x, subst (λ y. ask y (Gives x)) text gives),
        refusals_of_listed paths (done ++ s.path ∷ []) (index + 1) list strings all
            (is ∙ sym (append_assoc done (s.path ∷ []) (map (λ it. it.path) strings)))
            (ap (λ n. n + 1) at ∙ sym (length-append done (s.path ∷ []))) (cc) h,
      )
  refusals_of_listed paths done index (it ∷ list) (s ∷ strings) all is at same (inr (refusal, more, all_is, r, h)) =
      let text : text_at it ≡ s.text = cc in
      let here : slice_get paths index ≡ Some s.path =
      ap₂ slice_get is at ∙ slice_get-seam done s.path (map (λ it. it.path) strings) in
      let path : steps_of refusal.path ≡ s.path = cc (r.path) in
      inr (
        r.fault,
        map refusal_at more,
        subst (λ y. ask y (Refuses r.fault)) text r.refused,
        ap (map refusal_at) all_is ∙ cc (r.text, r.fault_is),
        refusals_of_listed paths (done ++ s.path ∷ []) (index + 1) list strings more
            (is ∙ sym (append_assoc done (s.path ∷ []) (map (λ it. it.path) strings)))
            (ap (λ n. n + 1) at ∙ sym (length-append done (s.path ∷ []))) (cc) h,
      )

  module _ (source : List ℕ) where
    -- a list that is spelled from a position on is spelled from an earlier one on
    from_before : (from start : ℕ) (list : List StringAt) → from ≤ start
        → AreSpelled IsStringToken source start list → AreSpelled IsStringToken source from list
    from_before from start [] before h = tt
    from_before from start (it ∷ list) before (within, after, forwards, spells, h) =
        (within, omega arith, forwards, spells, h)

    -- the refused strings of a spelled list are spelled
    refused_spelled : (LeadsTo : ℕ → Path → Type 0) (index from : ℕ) (list : List StringAt)
        (all : List RefusalAt) → AreSpelled IsStringToken source from list
        → AreRefusedOf ask LeadsTo index list all → AreSpelled IsStringToken source from (map string_of all)
    refused_spelled LeadsTo index from [] all spelled none =
        subst (λ xs. AreSpelled IsStringToken source from (map string_of xs)) (sym none) tt
    refused_spelled LeadsTo index from (it ∷ list) all (within, after, forwards, spells, rest) (inl (gives, h)) =
        refused_spelled LeadsTo (index + 1) from list all
        (from_before from it.span.end list (omega arith) rest) h
    refused_spelled LeadsTo index from (it ∷ list) all (within, after, forwards, spells, rest)
        (inr (refusal, more, is, r, h)) =
        let IsSpelledAs = λ (span : Range ℕ) (x : List ℕ). IsRangeIn source span × (from ≤ span.start)
        × (span.start ≤ span.end) × IsStringToken (slice_range source span.start span.end) x
        × AreSpelled IsStringToken source span.end (map string_of more) in
        subst (λ xs. AreSpelled IsStringToken source from (map string_of xs)) (sym is)
        (subst (λ span. IsSpelledAs span (string_bytes refusal.text)) (sym r.span)
        (subst (IsSpelledAs it.span) (sym r.text) (
          within,
          after,
          forwards,
          spells,
          refused_spelled LeadsTo (index + 1) it.span.end list more rest h,
        )))

    -- the listed refused strings of the text are all its refused strings
    pub all_refused : (all : List RefusalAt) → AreRefused ask source all → AreAllRefused ask source all
    all_refused all (list, listing, h) =
        let strings = located_in [] (tokens source) in record {
          each = (list, listing, h);
          refused = refusals_of_listed (map (λ it. it.path) strings) [] 0 list strings all refl refl
              (listing.all ∙ sym (located_texts [] (tokens source))) h;
          spelled = refused_spelled (IsPathTo source) 0 0 list all listing.spelled h;
          range = ranges_within ask (IsPathTo source) refusal_at HasRangeInText (λ it within. within) 0 list all h;
        }
