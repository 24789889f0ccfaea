-- Texts whose strings are filled in, one part at a time.
use Rattle.std.proofs.Common.{◌≡◌, ℕ, List, [], ◌∷◌, ◌++◌, inl, inr, refl, sym, ap, ◌∙◌, subst, append_assoc, append-nil}
use Rattle.subst_language.specs.Language.Answer.{Answer}
use Rattle.subst_language.specs.Language.Several.{AreGiven, GivesBy}
use Rattle.subst_document.specs.Edits.{IsFilledText, IsFilledUpTo}
use Rattle.subst_document.specs.Splice.{IsRespelled}
use Rattle.subst_document.proofs.SpliceLemmas.{respelled_weaker}

module _ (IsToken : List ℕ → List ℕ → Type 0) (IsPart : List ℕ → List ℕ → List ℕ → Type 0)
    (Fits : List ℕ → List ℕ → Type 0) where
  -- a token is read, and one of the value replaces it
  pub edited : (Becomes : List ℕ → List ℕ → Type 0) (x value source before token respelled rest old new : List ℕ)
      → Becomes x value → ¬ (value ≡ x) → IsToken token x → IsToken respelled value
      → IsRespelled IsPart Fits Becomes x value token respelled → source ≡ before ++ (token ++ rest)
      → new ≡ old ++ (before ++ respelled)
      → IsFilledUpTo IsToken IsPart Fits Becomes (x ∷ []) source rest old new
  edited Becomes x value source before token respelled rest old new becomes other spells reads anew cut is = (
    before ++ respelled,
    is,
    λ more filled h. inr (
      value,
      becomes,
      other,
      record {
        before = before;
        token = token;
        new = respelled;
        rest = rest;
        filled_rest = filled;
        spells = spells;
        reads = reads;
        respelled = anew;
        source_is = cut;
        output_is = append_assoc before respelled filled;
      },
      h,
    ),
  )

  -- nothing is read, and nothing appended
  pub none_filled : (Becomes : List ℕ → List ℕ → Type 0) (text old : List ℕ)
      → IsFilledUpTo IsToken IsPart Fits Becomes [] text text old old
  none_filled Becomes text old = ([], sym (append-nil old), λ more filled h. h)

  -- an unchanged string stays in the rest
  pub stayed : (Becomes : List ℕ → List ℕ → Type 0) (x text old new : List ℕ) → Becomes x x → new ≡ old
      → IsFilledUpTo IsToken IsPart Fits Becomes (x ∷ []) text text old new
  stayed Becomes x text old new same is = ([], is ∙ sym (append-nil old), λ more filled h. inl (same, h))

  -- one part after another
  pub filled_then : (Becomes : List ℕ → List ℕ → Type 0) (xs ys : List (List ℕ)) (a b c old mid new : List ℕ)
      → IsFilledUpTo IsToken IsPart Fits Becomes xs a b old mid
      → IsFilledUpTo IsToken IsPart Fits Becomes ys b c mid new
      → IsFilledUpTo IsToken IsPart Fits Becomes (xs ++ ys) a c old new
  filled_then Becomes xs ys a b c old mid new (p, is_p, before) (q, is_q, after) = (
    p ++ q,
    is_q ∙ ap (λ l. l ++ q) is_p ∙ append_assoc old p q,
    λ more filled h. subst (λ strings. IsFilledText IsToken IsPart Fits Becomes strings a ((p ++ q) ++ filled))
        (sym (append_assoc xs ys more))
        (subst (IsFilledText IsToken IsPart Fits Becomes (xs ++ (ys ++ more)) a) (sym (append_assoc p q filled))
        (before (ys ++ more) (q ++ filled) (after more filled h))),
  )

  -- the rest has no strings, and is appended as it is
  pub filled_to_end : (Becomes : List ℕ → List ℕ → Type 0) (strings : List (List ℕ))
      (source rest old output : List ℕ) → IsFilledUpTo IsToken IsPart Fits Becomes strings source rest [] old
      → output ≡ old ++ rest → IsFilledText IsToken IsPart Fits Becomes strings source output
  filled_to_end Becomes strings source rest old output (p, is_p, before) is =
      subst (λ xs. IsFilledText IsToken IsPart Fits Becomes xs source output) (append-nil strings)
      (subst (IsFilledText IsToken IsPart Fits Becomes (strings ++ []) source)
      (sym (is ∙ ap (λ l. l ++ rest) is_p)) (before [] rest refl))

  -- the relation of a string and its value may be weakened
  pub filled_weaker : (Becomes Stays : List ℕ → List ℕ → Type 0)
      → ((x y : List ℕ) → Becomes x y → Stays x y) → (strings : List (List ℕ)) (source output : List ℕ)
      → IsFilledText IsToken IsPart Fits Becomes strings source output
      → IsFilledText IsToken IsPart Fits Stays strings source output
  filled_weaker Becomes Stays weaker [] source output h = h
  filled_weaker Becomes Stays weaker (x ∷ strings) source output (inl (same, h)) =
      inl (weaker x x same, filled_weaker Becomes Stays weaker strings source output h)
  filled_weaker Becomes Stays weaker (x ∷ strings) source output (inr (value, becomes, other, edit, h)) =
      inr (
        value,
        weaker x value becomes,
        other,
        record {
          before = edit.before;
          token = edit.token;
          new = edit.new;
          rest = edit.rest;
          filled_rest = edit.filled_rest;
          spells = edit.spells;
          reads = edit.reads;
          respelled =
              respelled_weaker IsPart Fits Becomes Stays weaker x value edit.token edit.new
              edit.respelled;
          source_is = edit.source_is;
          output_is = edit.output_is;
        },
        filled_weaker Becomes Stays weaker strings edit.rest edit.filled_rest h,
      )

  module _ (ask : List ℕ → Answer → Type 0) where
    -- if a text is filled in, its strings have outputs
    given_where_filled : (strings : List (List ℕ)) (source output : List ℕ)
        → IsFilledText IsToken IsPart Fits (GivesBy ask) strings source output → AreGiven ask strings
    given_where_filled [] source output h = ([], tt)
    given_where_filled (x ∷ strings) source output (inl (same, h)) =
        let (outputs, given) = given_where_filled strings source output h in (x ∷ outputs, (same, given))
    given_where_filled (x ∷ strings) source output (inr (value, gives, other, edit, h)) =
        let (outputs, given) = given_where_filled strings edit.rest edit.filled_rest h in
        (value ∷ outputs, (gives, given))

    -- so have those of a part
    pub given_so_far : (strings : List (List ℕ)) (text rest old new : List ℕ)
        → IsFilledUpTo IsToken IsPart Fits (GivesBy ask) strings text rest old new → AreGiven ask strings
    given_so_far strings text rest old new (p, is, before) =
        subst (AreGiven ask) (append-nil strings)
        (given_where_filled (strings ++ []) text (p ++ rest) (before [] rest refl))
