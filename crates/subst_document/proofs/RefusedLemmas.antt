-- Refused strings, with their indices and their paths.
use Rattle.std.proofs.Common.{◌≡◌, ℕ, ◌+◌, List, [], ◌∷◌, map, inl, inr, sym, ap, subst, string_bytes}
use Rattle.std.specs.List.{zip, AllByRecursion}
use Rattle.subst_error.specs.ErrorFault.{error_fault}
use Rattle.subst_error.specs.Range.{range_of, IsRangeIn}
use Rattle.subst_language.specs.Language.Answer.{Answer, Gives, Refuses}
use Rattle.subst_document.specs.Edits.{text_at}
use Rattle.subst_document.specs.Refused.{with_path, ArePathsTo, AreRefusedOf}
use Rattle.subst_document.specs.declared.edits.RefusalAt.{RefusalAt}
use Rattle.subst_document.specs.declared.edits.StringAt.{StringAt}

module _ {P : Type 0} (ask : List ℕ → Answer → Type 0) (LeadsTo : ℕ → P → Type 0) where
  -- refusals with the paths to the strings at their indices
  pub refused_with_paths : (index : ℕ) (list : List StringAt) (refused : List (RefusalAt ℕ)) (paths : List P)
      → AreRefusedOf ask (λ i path. path ≡ i) index list refused → ArePathsTo LeadsTo refused paths
      → AreRefusedOf ask LeadsTo index list (map (λ it. with_path it.0 it.1) (zip refused paths))
  refused_with_paths index [] refused paths none to =
      ap (λ (rs : List (RefusalAt ℕ)). map (λ it. with_path it.0 it.1) (zip rs paths)) none
  refused_with_paths index (it ∷ list) refused paths (inl (gives, h)) to =
      inl (gives, refused_with_paths (index + 1) list refused paths h to)
  refused_with_paths index (it ∷ list) refused [] (inr (refusal, more, is, r, h)) to =
      absurd (subst (λ (rs : List (RefusalAt ℕ)). ArePathsTo LeadsTo rs []) is to)
  refused_with_paths index (it ∷ list) refused (path ∷ paths) (inr (refusal, more, is, r, h)) to =
      let both = subst (λ (rs : List (RefusalAt ℕ)). ArePathsTo LeadsTo rs (path ∷ paths)) is to in
      inr (
        with_path refusal path,
        map (λ it. with_path it.0 it.1) (zip more paths),
        ap (λ (rs : List (RefusalAt ℕ)). map (λ it. with_path it.0 it.1) (zip rs (path ∷ paths))) is,
        record {
          path = subst (λ i. LeadsTo i path) r.path both.0;
          text = r.text;
          span = r.span;
          fault = r.fault;
          fault_is = r.fault_is;
          refused = r.refused;
          range = r.range;
        },
        refused_with_paths (index + 1) list more paths h both.1,
      )

  -- the range of each fault is in its string
  pub ranges_within : {X : Type 0} (f : RefusalAt P → X) (Q : X → Type 0)
      → ((it : RefusalAt P) → IsRangeIn (string_bytes it.text) (range_of (error_fault it.error)) → Q (f it))
      → (index : ℕ) (list : List StringAt) (all : List (RefusalAt P)) → AreRefusedOf ask LeadsTo index list all
      → AllByRecursion Q (map f all)
  ranges_within f Q holds index [] all none = subst (λ xs. AllByRecursion Q (map f xs)) (sym none) tt
  ranges_within f Q holds index (it ∷ list) all (inl (gives, h)) =
      ranges_within f Q holds (index + 1) list all h
  ranges_within f Q holds index (it ∷ list) all (inr (refusal, more, is, r, h)) =
      subst (λ xs. AllByRecursion Q (map f xs)) (sym is) (
        holds refusal
            (subst (λ x. IsRangeIn x (range_of (error_fault refusal.error))) (sym r.text) r.range),
        ranges_within f Q holds (index + 1) list more h,
      )

  -- the relation of a string and its answers may be weakened
  pub refused_weaker : (other : List ℕ → Answer → Type 0) → ((s : List ℕ) (a : Answer) → ask s a → other s a)
      → (index : ℕ) (list : List StringAt) (all : List (RefusalAt P)) → AreRefusedOf ask LeadsTo index list all
      → AreRefusedOf other LeadsTo index list all
  refused_weaker other weaker index [] all none = none
  refused_weaker other weaker index (it ∷ list) all (inl ((x, gives), h)) =
      inl ((x, weaker (text_at it) (Gives x) gives), refused_weaker other weaker (index + 1) list all h)
  refused_weaker other weaker index (it ∷ list) all (inr (refusal, more, is, r, h)) =
      inr (
        refusal,
        more,
        is,
        record {
          path = r.path;
          text = r.text;
          span = r.span;
          fault = r.fault;
          fault_is = r.fault_is;
          refused = weaker (text_at it) (Refuses r.fault) r.refused;
          range = r.range;
        },
        refused_weaker other weaker (index + 1) list more h,
      )
