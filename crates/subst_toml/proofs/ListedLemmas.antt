-- Refused strings of a document with their spans.
use Rattle.std.proofs.Common.{ℕ, ◌+◌, List, [], ◌∷◌, map, inl, inr, ap, ◌∙◌}
use Rattle.std.specs.List.{AllByRecursion, AllZip}
use Rattle.subst_language.specs.Language.Answer.{Answer}
use Rattle.subst_document.specs.Refused.{AreRefusedOf}
use Rattle.subst_document.specs.declared.edits.RefusalAt.{RefusalAt}
use Rattle.subst_document.specs.declared.edits.StringAt.{StringAt}
use Rattle.subst_document.proofs.RefusedLemmas.{ranges_within}
use Rattle.subst_toml.specs.Filled.{spelled_of, refusal_in, AreRefusalsIn, HasFaultInText, IsFound}
use Rattle.subst_toml.specs.Listed.{AreAllRefused, AreRefusedIn, IsPathTo}
use Rattle.subst_toml.specs.Outcome.{ReadsAsTree}
use Rattle.subst_toml.specs.declared.path.Path.{Path}

-- the refused strings of a list are the same without their paths
refusals_of_listed : (ask : List ℕ → Answer → Type 0) (LeadsTo : ℕ → Path → Type 0) (index : ℕ)
    (list : List StringAt) (all : List (RefusalAt Path)) → AreRefusedOf ask LeadsTo index list all
    → AreRefusalsIn ask (map spelled_of list) (map refusal_in all)
refusals_of_listed ask LeadsTo index [] all none = ap (map refusal_in) none
refusals_of_listed ask LeadsTo index (it ∷ list) all (inl (gives, h)) =
    inl (gives, refusals_of_listed ask LeadsTo (index + 1) list all h)
refusals_of_listed ask LeadsTo index (it ∷ list) all (inr (refusal, more, is, r, h)) =
    inr (
      r.fault,
      map refusal_in more,
      r.refused,
      ap (map refusal_in) is ∙ cc (r.text, r.span, r.fault_is),
      refusals_of_listed ask LeadsTo (index + 1) list more h,
    )

-- the listed refused strings of the document are all its refused strings
pub all_refused : (ask : List ℕ → Answer → Type 0) (source : List ℕ) (all : List (RefusalAt Path))
    → AreRefusedIn ask source all → ReadsAsTree source (λ d. AllByRecursion (IsFound source d) all)
    → AreAllRefused ask source all
all_refused ask source all (list, strings, h) found = record {
  each = (list, strings, h);
  refused = (map spelled_of list, strings, refusals_of_listed ask (IsPathTo source list) 0 list all h);
  found = found;
  range = ranges_within ask (IsPathTo source list) refusal_in HasFaultInText (λ it within. within) 0 list all h;
}

-- two lists are related element by element by any weaker relation
pub AllZip-weaker : {A B : Type 0} (R S : A → B → Type 0) → ((x : A) (y : B) → R x y → S x y) → (xs : List A)
    (ys : List B) → AllZip R xs ys → AllZip S xs ys
AllZip-weaker R S weaker [] [] h = h
AllZip-weaker R S weaker [] (y ∷ ys) h = absurd h
AllZip-weaker R S weaker (x ∷ xs) [] h = absurd h
AllZip-weaker R S weaker (x ∷ xs) (y ∷ ys) h = (weaker x y h.0, AllZip-weaker R S weaker xs ys h.1)
