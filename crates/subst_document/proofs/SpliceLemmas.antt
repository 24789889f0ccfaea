-- Tokens of strings that change, one piece at a time.
use Rattle.std.proofs.Common.{◌≡◌, ◌⊎◌, ℕ, List, [], ◌∷◌, ◌++◌, inl, inr, refl, sym, ap, ap₂, ◌∙◌, append_assoc, append-nil}
use Rattle.std.specs.List.{flat_map, AllByRecursion}
use Rattle.std.proofs.lemmas.Grind.{flat_map-append}
use Rattle.subst_document.specs.Splice.{afters, AppendsPieces, AppendsUpTo, AreParts, IsMoreThanParts, IsPiece, IsPlaceholder, IsRespelled, IsSpliced, Part, Piece}

-- a property of all elements of two lists holds of all of their concatenation
pub all_append : {A : Type 0} (P : A → Type 0) (xs ys : List A) → AllByRecursion P xs → AllByRecursion P ys
    → AllByRecursion P (xs ++ ys)
all_append P [] ys h k = k
all_append P (x ∷ xs) ys h k = (h.0, all_append P xs ys h.1 k)

-- the relation of a string and its value may be weakened
pub respelled_weaker : (IsPart : List ℕ → List ℕ → List ℕ → Type 0) (Fits Becomes Stays : List ℕ → List ℕ → Type 0)
    → ((x y : List ℕ) → Becomes x y → Stays x y) → (text value token new : List ℕ)
    → IsRespelled IsPart Fits Becomes text value token new → IsRespelled IsPart Fits Stays text value token new
respelled_weaker IsPart Fits Becomes Stays weaker text value token new (inl spliced) = inl spliced
respelled_weaker IsPart Fits Becomes Stays weaker text value token new (inr (inl misfit)) =
    let (before, placeholder, after, part, is, placed, becomes, other) = misfit in
    inr (inl (before, placeholder, after, part, is, placed, weaker placeholder part becomes, other))
respelled_weaker IsPart Fits Becomes Stays weaker text value token new (inr (inr (parts, each, is, other))) =
    inr (inr (parts, all parts each, is, other))
  where
    all : (parts : List Part) → AllByRecursion (λ part. Becomes part.text part.output) parts
        → AllByRecursion (λ part. Stays part.text part.output) parts
    all [] h = tt
    all (part ∷ parts) h = (weaker part.text part.output h.0, all parts h.1)

-- joined texts of elements
flat_then : {A : Type 0} (f : A → List ℕ) (xs ys : List A) (s t u : List ℕ) → s ≡ flat_map f xs ++ t
    → t ≡ flat_map f ys ++ u → s ≡ flat_map f (xs ++ ys) ++ u
flat_then f xs ys s t u e h =
    e ∙ ap (λ l. flat_map f xs ++ l) h ∙ sym (append_assoc (flat_map f xs) (flat_map f ys) u)
    ∙ ap (λ l. l ++ u) (sym (flat_map-append f xs ys))

-- texts that are appended, one after the other
appended_then : {A : Type 0} (f : A → List ℕ) (xs ys : List A) (old mid new : List ℕ)
    → mid ≡ old ++ flat_map f xs → new ≡ mid ++ flat_map f ys → new ≡ old ++ flat_map f (xs ++ ys)
appended_then f xs ys old mid new e h =
    h ∙ ap (λ l. l ++ flat_map f ys) e ∙ append_assoc old (flat_map f xs) (flat_map f ys)
    ∙ ap (λ l. old ++ l) (sym (flat_map-append f xs ys))

module _ (IsPart : List ℕ → List ℕ → Type 0) where
  -- one piece
  one_appended : (piece : Piece) (text before old new : List ℕ) → IsPiece IsPart piece → piece.text ≡ text
      → piece.before ≡ before → new ≡ old ++ piece.after → AppendsPieces IsPart text before old new
  one_appended piece text before old new is text_is before_is new_is = record {
    pieces = piece ∷ [];
    each = (is, tt);
    text_is = sym text_is ∙ sym (append-nil piece.text);
    before_is = sym before_is ∙ sym (append-nil piece.before);
    new_is = new_is ∙ ap (λ l. old ++ l) (sym (append-nil piece.after));
  }

  -- a piece that stays
  pub appends_kept : (text before old new : List ℕ) → (before ≡ text) ⊎ IsPart before text → new ≡ old ++ before
      → AppendsPieces IsPart text before old new
  appends_kept text before old new spells is =
      one_appended (record { text = text; before = before; after = before }) text before old new
      (record { spells = spells; stays = inl refl }) refl refl is

  -- a placeholder
  pub appends_placed : (text before spelled old new : List ℕ) → (before ≡ text) ⊎ IsPart before text
      → IsPlaceholder text → new ≡ old ++ spelled → AppendsPieces IsPart text before old new
  appends_placed text before spelled old new spells placeholder is =
      one_appended (record { text = text; before = before; after = spelled }) text before old new
      (record { spells = spells; stays = inr placeholder }) refl refl is

  -- some pieces after others
  pub appends_then : (text more before others old mid new : List ℕ) → AppendsPieces IsPart text before old mid
      → AppendsPieces IsPart more others mid new → AppendsPieces IsPart (text ++ more) (before ++ others) old new
  appends_then text more before others old mid new first second = record {
    pieces = first.pieces ++ second.pieces;
    each = all_append (IsPiece IsPart) first.pieces second.pieces first.each second.each;
    text_is =
        ap₂ (λ k l. k ++ l) first.text_is second.text_is
        ∙ sym (flat_map-append (λ piece. piece.text) first.pieces second.pieces);
    before_is =
        ap₂ (λ k l. k ++ l) first.before_is second.before_is
        ∙ sym (flat_map-append (λ piece. piece.before) first.pieces second.pieces);
    new_is = appended_then (λ piece. piece.after) first.pieces second.pieces old mid new first.new_is second.new_is;
  }

  -- nothing is read yet
  pub appends_nothing : (text token old : List ℕ) → AppendsUpTo IsPart text text token token old old
  appends_nothing text token old = record {
    passed = [];
    before = [];
    text_is = refl;
    token_is = refl;
    appends = record {
      pieces = [];
      each = tt;
      text_is = refl;
      before_is = refl;
      new_is = sym (append-nil old);
    };
  }

  -- more is read
  pub appends_more : (text text_rest token token_rest more next last_text last_token old mid new : List ℕ)
      → AppendsUpTo IsPart text text_rest token token_rest old mid → text_rest ≡ more ++ last_text
      → token_rest ≡ next ++ last_token → AppendsPieces IsPart more next mid new
      → AppendsUpTo IsPart text last_text token last_token old new
  appends_more text text_rest token token_rest more next last_text last_token old mid new done text_is token_is
      appends = record {
        passed = done.passed ++ more;
        before = done.before ++ next;
        text_is = done.text_is ∙ ap (λ l. done.passed ++ l) text_is ∙ sym (append_assoc done.passed more last_text);
        token_is =
            done.token_is ∙ ap (λ l. done.before ++ l) token_is ∙ sym (append_assoc done.before next last_token);
        appends = appends_then done.passed more done.before next old mid new done.appends appends;
      }

  -- the closing quotes follow the last piece
  pub spliced_to_end : (text text_rest token opening inner token_rest closing mid output new : List ℕ)
      → AppendsUpTo IsPart text text_rest inner token_rest opening mid
      → AppendsPieces IsPart text_rest token_rest mid output → token ≡ opening ++ (inner ++ closing)
      → new ≡ output ++ closing → IsSpliced IsPart text token new
  spliced_to_end text text_rest token opening inner token_rest closing mid output new done last cut is =
      let all = appends_then done.passed text_rest done.before token_rest opening mid output done.appends last in
      record {
        opening = opening;
        closing = closing;
        pieces = all.pieces;
        each = all.each;
        text_is = done.text_is ∙ all.text_is;
        token_is = cut ∙ ap (λ l. opening ++ (l ++ closing)) (done.token_is ∙ all.before_is);
        new_is = is ∙ ap (λ l. l ++ closing) all.new_is ∙ append_assoc opening (afters all.pieces) closing;
      }

module _ (Becomes : List ℕ → List ℕ → Type 0) where
  -- no part is read
  pub no_parts : (text old : List ℕ) → AreParts Becomes text text old old
  no_parts text old = record { parts = []; each = tt; text_is = refl; new_is = sym (append-nil old) }

  -- one more part
  pub part_more : (text output mid rest start old new whole : List ℕ) → AreParts Becomes whole mid start old
      → mid ≡ text ++ rest → Becomes text output → new ≡ old ++ output → AreParts Becomes whole rest start new
  part_more text output mid rest start old new whole done cut becomes is =
      let part : Part = record { text = text; output = output } in
      record {
        parts = done.parts ++ part ∷ [];
        each = all_append (λ part. Becomes part.text part.output) done.parts (part ∷ []) done.each (becomes, tt);
        text_is =
            flat_then (λ part. part.text) done.parts (part ∷ []) whole mid rest done.text_is
            (cut ∙ ap (λ l. l ++ rest) (sym (append-nil text)));
        new_is =
            appended_then (λ part. part.output) done.parts (part ∷ []) start old new done.new_is
            (is ∙ ap (λ l. old ++ l) (sym (append-nil output)));
      }

  -- the outputs of all parts together are another text
  pub more_than_parts : (text joined value : List ℕ) → AreParts Becomes text [] [] joined → ¬ (joined ≡ value)
      → IsMoreThanParts Becomes text value
  more_than_parts text joined value all other = (
    all.parts,
    all.each,
    all.text_is ∙ append-nil (flat_map (λ part. part.text) all.parts),
    λ same. other (all.new_is ∙ sym same),
  )
