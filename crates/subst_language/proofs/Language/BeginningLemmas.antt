-- The beginning of a text: one function finds it, with a proof; it finds each item and each bad item.
use Rattle.std.proofs.Common.{rules, ◌≡◌, ◌≢◌, ◌⊎◌, ◌==◌, ℕ, ◌+◌, ◌<◌, Bool, IsTrue, IsFalse, cond, List, [], ◌∷◌, ◌++◌, length, Some, None, refl, sym, ap, ◌∙◌, subst, inl, inr, append_assoc, append-nil, ne_eqb}
use Rattle.std.proofs.lemmas.Bool.{cond-true, cond-false, cond_both, eqb-true, eqb-false, false≢true, false_from_ne_true}
use Rattle.std.specs.List.{AllByRecursion}
use Rattle.subst_language.specs.Language.Bytes.{dollar, colon, question_mark, backslash, opening_brace, closing_brace, is_escapable}
use Rattle.subst_language.specs.Language.Name.{IsNameByte, IsName}
use Rattle.subst_language.specs.Language.Name.{BeginsWithNo}
use Rattle.subst_language.specs.Language.Tree.{Item, Plain, Escaped, Short, Braced, Optional, Default, Tree, Empty, Then, item_text, text}
use Rattle.subst_language.specs.Language.Balanced.{IsBalanced, Closes}
use Rattle.subst_language.specs.Language.WellFormed.{IsItem}
use Rattle.subst_language.specs.Language.Followed.{IsFollowed}
use Rattle.subst_error.specs.Fault.{Fault, InvalidEscapeSequence, MissingVariableName, UnexpectedCharacter, MissingClosingBrace}
use Rattle.subst_language.specs.Language.BadItem.{after_name, after_question_mark, IsBad, HasFault}
use Rattle.subst_language.specs.Language.BadItem.IsBad.{escape_at_end, escape, dollar_at_end, dollar_alone, brace_at_end, brace_alone, name_at_end, name_alone, optional_at_end, optional_alone, unclosed, inside}
use Rattle.subst_language.proofs.Language.BalancedLemmas.{cut_unique}
use Rattle.subst_language.proofs.Language.CharacterLemmas.{front_character, character_unique}
use Rattle.subst_language.proofs.Language.ClosesOrNotLemmas.{closes_or_not}
use Rattle.subst_language.proofs.Language.ItemLemmas.{default_text, default_shorter}
use Rattle.subst_language.proofs.Language.NameLemmas.{split, split_unique, name_byte_differs, opening_no_name, closing_no_name, colon_no_name, question_mark_no_name}

-- the beginning of a text
pub data Beginning : Type 0 where
  -- nothing: the text is empty
  Nothing : Beginning
  -- an item with no default, and the text after it
  Simple : Item → List ℕ → Beginning
  -- a name in braces with a default, the text of the default, and the text after the closing brace
  WithDefault : (name default rest : List ℕ) → Beginning
  -- a bad item, by its fault at the text's byte offset, if that isn't a fault in a default
  Bad : (ℕ → Fault) → Beginning

-- the text s has this beginning
abbrev pub BeginsSo : List ℕ → Beginning → Type 0
BeginsSo s Nothing = s ≡ []
BeginsSo s (Simple item x) = IsItem item Empty × IsFollowed (Then item Empty) x × (s ≡ item_text item ++ x)
BeginsSo s (WithDefault n w x) =
    IsName n × IsBalanced w × (s ≡ dollar ∷ opening_brace ∷ n ++ (colon ∷ w ++ closing_brace ∷ x))
BeginsSo s (Bad f) = (p : ℕ) → IsBad p s (f p)

-- if H holds, a beginning of the text s
abbrev BeginningOf : Type 0 → List ℕ → Type 0
BeginningOf H s = (k : Beginning) × (H → BeginsSo s k)

-- if H holds, a beginning of the text s, from one of an equal text if K holds
abbrev given : {H K : Type 0} {s t : List ℕ} → s ≡ t → (H → K) → BeginningOf K t → BeginningOf H s
given e f k = (k.0, λ h. subst (λ u. BeginsSo u k.0) (sym e) (k.1 (f h)))

-- by a test
abbrev by_test : {H : Type 0} {s : List ℕ} (d : Bool) → BeginningOf (H × IsTrue d) s
    → BeginningOf (H × IsFalse d) s
    → BeginningOf H s
by_test {s = s} d this other =
    let P = BeginsSo s in
    (cond d this.0 other.0, λ h. cond_both d this.0 other.0 P (λ is. this.1 (h, is)) (λ is. other.1 (h, is)))

-- by whether the byte b of a text is the byte c
abbrev by_byte : {H : Type 0} (t : ℕ → List ℕ) (b c : ℕ) → BeginningOf H (t c)
    → BeginningOf (H × (b ≢ c)) (t b)
    → BeginningOf H (t b)
by_byte t b c this other =
    by_test (b == c) (this.0, λ h. subst (λ a. BeginsSo (t a) this.0) (sym (eqb-true b c h.1)) (this.1 h.0))
    (given refl (λ h. (h.0, eqb-false b c h.1)) other)

-- a dollar with no name after it
pub bad_dollar : (p : ℕ) (x : List ℕ) → BeginsWithNo (λ b. b ≡ opening_brace) x → BeginsWithNo IsNameByte x
    → IsBad p (dollar ∷ x) (MissingVariableName p 1)
bad_dollar p [] o f = dollar_at_end
bad_dollar p (b ∷ x) o f = dollar_alone o f

-- a dollar and an opening brace with no name after them
pub bad_braces : (p : ℕ) (x : List ℕ) → BeginsWithNo IsNameByte x
    → IsBad p (dollar ∷ opening_brace ∷ x) (MissingVariableName p 2)
bad_braces p [] f = brace_at_end
bad_braces p (b ∷ x) f = brace_alone f

-- after a backslash
abbrev after_backslash : (x : List ℕ) → BeginningOf (Unit {0}) (backslash ∷ x)
after_backslash [] = (Bad (λ p. InvalidEscapeSequence p None), λ h p. escape_at_end)
after_backslash (b ∷ x) =
    let c = front_character b x in
    by_test (is_escapable b) (Simple (Escaped b) x, λ h. (h.1, tt, refl)) (
      Bad (λ p. InvalidEscapeSequence p (Some c.0)),
      λ h p. escape (λ special. false≢true (sym h.1 ∙ special)) c.1,
    )

-- after a name in braces and a colon
abbrev after_colon : (n w : List ℕ) → Closes w ⊎ (¬ (Closes w))
    → BeginningOf (IsName n) (dollar ∷ opening_brace ∷ n ++ colon ∷ w)
after_colon n w (inl c) =
    (WithDefault n c.0 c.1, λ h. (h, c.2, ap (λ u. dollar ∷ opening_brace ∷ n ++ colon ∷ u) c.3))
after_colon n w (inr f) = (Bad (λ p. MissingClosingBrace (p + 1)), λ h p. unclosed n w h f)

-- after a name in braces and a question mark
abbrev after_optional_name : (n x : List ℕ)
    → BeginningOf (IsName n) (dollar ∷ opening_brace ∷ n ++ question_mark ∷ x)
after_optional_name n [] = (Bad (λ p. MissingClosingBrace (p + 1)), λ h p. optional_at_end n h)
after_optional_name n (b ∷ x) =
    let c = front_character b x in
    by_byte (λ (b : ℕ). dollar ∷ opening_brace ∷ n ++ (question_mark ∷ b ∷ x)) b closing_brace (
      Simple (Optional n) x,
      λ h. (h, tt, sym (append_assoc (dollar ∷ opening_brace ∷ n) (question_mark ∷ closing_brace ∷ []) x)),
    ) (
      Bad (λ p. UnexpectedCharacter (p + 3 + length n) c.0 after_question_mark),
      λ h p. optional_alone n x h.0 h.1 c.1,
    )

-- after a name in braces
abbrev after_braced_name : (n x : List ℕ)
    → BeginningOf (IsName n × BeginsWithNo IsNameByte x) (dollar ∷ opening_brace ∷ n ++ x)
after_braced_name n [] = (Bad (λ p. MissingClosingBrace (p + 1)), λ h p. rw append-nil (name_at_end n h.0))
after_braced_name n (b ∷ x) =
    let c = front_character b x in
    let t = λ (b : ℕ). dollar ∷ opening_brace ∷ n ++ b ∷ x in
    by_byte t b closing_brace (
      Simple (Braced n) x,
      λ h. (h.0, tt, sym (append_assoc (dollar ∷ opening_brace ∷ n) (closing_brace ∷ []) x)),
    )
    (by_byte t b colon (given refl (λ h. h.0.0) (after_colon n x (closes_or_not x)))
    (by_byte t b question_mark (given refl (λ h. h.0.0.0) (after_optional_name n x)) (
      Bad (λ p. UnexpectedCharacter (p + 2 + length n) c.0 after_name),
      λ h p. name_alone n x h.0.0.0.0 h.0.0.0.1 h.0.0.1 h.0.1 h.1 c.1,
    )))

-- after a dollar and an opening brace, at name bytes that may be none
abbrev after_brace : (n x : List ℕ)
    → BeginningOf (AllByRecursion IsNameByte n × BeginsWithNo IsNameByte x) (dollar ∷ opening_brace ∷ n ++ x)
after_brace [] x = (Bad (λ p. MissingVariableName p 2), λ h p. bad_braces p x h.1)
after_brace (a ∷ n) x = after_braced_name (a ∷ n) x

-- after a dollar, at name bytes that may be none
abbrev after_short : (n x : List ℕ)
    → BeginningOf
    (AllByRecursion IsNameByte n × BeginsWithNo IsNameByte x × BeginsWithNo (λ b. b ≡ opening_brace) (n ++ x))
    (dollar ∷ n ++ x)
after_short [] x = (Bad (λ p. MissingVariableName p 1), λ h p. bad_dollar p x h.2 h.1)
after_short (a ∷ n) x = (Simple (Short (a ∷ n)) x, λ h. ((h.0, tt), h.1, refl))

-- after a dollar
abbrev after_dollar : (x : List ℕ) → BeginningOf (Unit {0}) (dollar ∷ x)
after_dollar [] = (Bad (λ p. MissingVariableName p 1), λ h p. dollar_at_end)
after_dollar (b ∷ x) =
    let (n, y, q) = split x in
    let (m, z, r) = split (b ∷ x) in
    by_byte (λ b. dollar ∷ b ∷ x) b opening_brace
    (given (ap (λ t. dollar ∷ opening_brace ∷ t) q.parts) (λ h. (q.name_part, q.rest_part)) (after_brace n y))
    (given (ap (λ t. dollar ∷ t) r.parts)
    (λ h. (r.name_part, r.rest_part, subst (BeginsWithNo (λ b. b ≡ opening_brace)) r.parts h.1))
    (after_short m z))

-- the beginning of a text, with its proof
abbrev found : (s : List ℕ) → BeginningOf (Unit {0}) s
found [] = (Nothing, λ h. refl)
found (b ∷ x) =
    by_byte (λ b. b ∷ x) b backslash (after_backslash x)
    (by_byte (λ b. b ∷ x) b dollar (given refl (λ h. tt) (after_dollar x))
    (Simple (Plain b) x, λ h. ((h.1, h.0.1), tt, refl)))

-- the beginning of a text
abbrev pub beginning : List ℕ → Beginning
beginning s = (found s).0

-- a text has the beginning that `beginning` finds
pub begins : (s : List ℕ) → BeginsSo s (beginning s)
begins s = (found s).1 tt

-- a text is split after the name bytes that it begins with
split_as : (F : List ℕ → List ℕ → Beginning) (s n x : List ℕ) → s ≡ n ++ x → AllByRecursion IsNameByte n
    → BeginsWithNo IsNameByte x
    → F (split s).0 (split s).1 ≡ F n x
split_as F s n x e h f = search (rules, split, split_unique)

-- a dollar, and no opening brace after it
beginning-short : (b : ℕ) (s n x : List ℕ) → b ≢ opening_brace → b ∷ s ≡ n ++ x → AllByRecursion IsNameByte n
    → BeginsWithNo IsNameByte x
    → beginning (dollar ∷ b ∷ s) ≡ (after_short n x).0
beginning-short b s n x o e h f =
    rw (ne_eqb b opening_brace o) (split_as (λ a y. (after_short a y).0) (b ∷ s) n x e h f)

-- a dollar and an opening brace with no name after them
beginning-no_name : (x : List ℕ) → BeginsWithNo IsNameByte x
    → beginning (dollar ∷ opening_brace ∷ x) ≡ Bad (λ p. MissingVariableName p 2)
beginning-no_name x f = split_as (λ a y. (after_brace a y).0) x [] x refl tt f

-- a dollar and an opening brace before a name
beginning-name : (s n x : List ℕ) → s ≡ n ++ x → IsName n → BeginsWithNo IsNameByte x
    → beginning (dollar ∷ opening_brace ∷ s) ≡ (after_braced_name n x).0
beginning-name s [] x e h f = absurd h
beginning-name s (b ∷ n) x e h f = split_as (λ a y. (after_brace a y).0) s (b ∷ n) x e h f

-- a name in braces with a default, which ends at the first closing brace that closes the placeholder
pub beginning-closed : (n w x : List ℕ) → IsName n → IsBalanced w
    → beginning (dollar ∷ opening_brace ∷ n ++ (colon ∷ w ++ closing_brace ∷ x)) ≡ WithDefault n w x
beginning-closed n w x h b =
    beginning-name _ n _ refl h colon_no_name
    ∙ of (w ++ closing_brace ∷ x) refl (closes_or_not (w ++ closing_brace ∷ x))
  where
    of : (u : List ℕ) → u ≡ w ++ closing_brace ∷ x → (c : Closes u ⊎ (¬ (Closes u)))
        → (after_colon n u c).0 ≡ WithDefault n w x
    of u is (inl c) = let e = cut_unique b c.2 x c.1 (sym is ∙ c.3) in cc (e.0, e.1)
    of u is (inr f) = absurd (f (w, x, b, is))

-- a name in braces with a default that is never closed
beginning-unclosed : (n w : List ℕ) → IsName n → ¬ (Closes w)
    → beginning (dollar ∷ opening_brace ∷ n ++ colon ∷ w) ≡ Bad (λ p. MissingClosingBrace (p + 1))
beginning-unclosed n w h f = beginning-name _ n (colon ∷ w) refl h colon_no_name ∙ of (closes_or_not w)
  where
    of : (c : Closes w ⊎ (¬ (Closes w))) → (after_colon n w c).0 ≡ Bad (λ p. MissingClosingBrace (p + 1))
    of (inl c) = absurd (f c)
    of (inr f) = refl

-- the beginning of an item's text before the text x
abbrev pub item_beginning : Item → List ℕ → Beginning
item_beginning (Default n d) x = WithDefault n (text d) x
item_beginning item x = Simple item x

-- `beginning` finds a well-formed item, before any text that may follow it
pub beginning-item : (item : Item) (rest : Tree) (x : List ℕ) → IsItem item rest
    → IsFollowed (Then item Empty) x
    → beginning (item_text item ++ x) ≡ item_beginning item x
beginning-item (Plain b) rest x i f = rw (ne_eqb b backslash i.1, ne_eqb b dollar i.0) refl
beginning-item (Escaped b) rest x i f = cond-true (is_escapable b) _ _ i
beginning-item (Short []) rest x i f = absurd i.0
beginning-item (Short (b ∷ n)) rest x i f =
    beginning-short b (n ++ x) (b ∷ n) x (name_byte_differs b opening_brace i.0.0 opening_no_name) refl i.0 f
beginning-item (Braced n) rest x i f =
    beginning-name _ n (closing_brace ∷ x) (append_assoc n (closing_brace ∷ []) x) i closing_no_name
beginning-item (Optional n) rest x i f =
    beginning-name _ n (question_mark ∷ closing_brace ∷ x)
    (append_assoc n (question_mark ∷ closing_brace ∷ []) x) i question_mark_no_name
beginning-item (Default n d) rest x i f =
    ap beginning (default_text n (text d) x) ∙ beginning-closed n (text d) x i.0 i.2

-- a text of m bytes at byte offset p with this beginning has the fault f; the text of the default is shorter
abbrev pub BeginningHasFault : ℕ → ℕ → Beginning → Fault → Type 0
BeginningHasFault p m (Bad g) f = f ≡ g p
BeginningHasFault p m (WithDefault n w x) f = (length w < m) × HasFault (p + 3 + length n) w f
BeginningHasFault p m _ f = ⊥

-- `beginning` finds a bad item, with its fault
pub beginning-bad : {p : ℕ} {r : List ℕ} {f : Fault} → IsBad p r f
    → BeginningHasFault p (length r) (beginning r) f
beginning-bad escape_at_end = refl
beginning-bad {p = p} (escape {b = b} {x = x} {c = c} n h) =
    search (rules, front_character, cond-false, is_escapable, false_from_ne_true, character_unique)
beginning-bad dollar_at_end = refl
beginning-bad (dollar_alone {b = b} {x = x} o f) = rw (beginning-short b x [] (b ∷ x) o refl tt f) refl
beginning-bad brace_at_end = rw (beginning-no_name [] tt) refl
beginning-bad (brace_alone {b = b} {x = x} f) = rw (beginning-no_name (b ∷ x) f) refl
beginning-bad (name_at_end n h) = rw (beginning-name n n [] (sym (append-nil n)) h tt) refl
beginning-bad {p = p} (name_alone {b = b} {c = c} n x h i j k q l) =
    let d = front_character b x in
    rw (
      beginning-name (n ++ b ∷ x) n (b ∷ x) refl h i,
      ne_eqb b closing_brace j,
      ne_eqb b colon k,
      ne_eqb b question_mark q,
    )
    (ap (λ c. UnexpectedCharacter (p + 2 + length n) c after_name) (character_unique (b ∷ x) c d.0 l d.1))
beginning-bad (optional_at_end n h) =
    rw (beginning-name _ n (question_mark ∷ []) refl h question_mark_no_name) refl
beginning-bad {p = p} (optional_alone {b = b} {c = c} n x h j l) =
    let d = front_character b x in
    rw (beginning-name _ n (question_mark ∷ b ∷ x) refl h question_mark_no_name, ne_eqb b closing_brace j)
    (ap (λ c. UnexpectedCharacter (p + 3 + length n) c after_question_mark)
    (character_unique (b ∷ x) c d.0 l d.1))
beginning-bad (unclosed n w h f) = rw (beginning-unclosed n w h f) refl
beginning-bad (inside n w x h b f) = rw (beginning-closed n w x h b) (default_shorter n w x, f)
