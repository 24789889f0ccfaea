-- Lists of the strings of a text, one part at a time.
use Rattle.std.proofs.Common.{◌≡◌, ℕ, List, [], ◌∷◌, ◌++◌, refl, sym, ap, ap₂, ◌∙◌, subst, append_assoc, append-nil}
use Rattle.std.proofs.lemmas.List.{map-append}
use Rattle.subst_document.specs.declared.edits.StringAt.{StringAt}
use Rattle.subst_document.specs.Edits.{AreSpelled, AreListed, text_at}

module _ (IsToken : List ℕ → List ℕ → Type 0) (source : List ℕ) where
  -- nothing is appended
  pub none_listed : (from : ℕ) (old : List StringAt) → AreListed IsToken source from from [] old old
  none_listed from old = ([], sym (append-nil old), refl, λ more h. h)

  -- one string is appended
  pub one_listed : (from : ℕ) (it : StringAt) (x : List ℕ) (old new : List StringAt) → new ≡ old ++ it ∷ []
      → text_at it ≡ x → AreSpelled IsToken source from (it ∷ [])
      → AreListed IsToken source from it.span.end (x ∷ []) old new
  one_listed from it x old new is text (within, after, forwards, spells, none) =
      (it ∷ [], is, ap (λ y. y ∷ []) text, λ more h. (within, after, forwards, spells, h))

  -- one part after another
  pub listed_then : (a b c : ℕ) (xs ys : List (List ℕ)) (old mid new : List StringAt)
      → AreListed IsToken source a b xs old mid → AreListed IsToken source b c ys mid new
      → AreListed IsToken source a c (xs ++ ys) old new
  listed_then a b c xs ys old mid new (p, is_p, texts_p, before) (q, is_q, texts_q, after) = (
    p ++ q,
    is_q ∙ ap (λ l. l ++ q) is_p ∙ append_assoc old p q,
    map-append text_at p q ∙ ap₂ (λ k l. k ++ l) texts_p texts_q,
    λ more h. subst (AreSpelled IsToken source a) (sym (append_assoc p q more))
        (before (q ++ more) (after more h)),
  )

  -- all are listed
  pub all_spelled : (next : ℕ) (strings : List (List ℕ)) (list : List StringAt)
      → AreListed IsToken source 0 next strings [] list → AreSpelled IsToken source 0 list
  all_spelled next strings list (items, is, texts, before) =
      subst (AreSpelled IsToken source 0) (append-nil items ∙ sym is) (before [] tt)
