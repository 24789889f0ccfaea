-- A text is read in one way: its refused forms are unique, and so are its items.
use Rattle.std.proofs.Common.{rules, ◌≡◌, ℕ, ◌+◌, zero, suc, true, false, List, [], ◌∷◌, ◌++◌, length, refl, sym, ap, ◌∙◌, subst, append_assoc, append-nil, arith}
use Rattle.subst_foreign.proofs.OneToken.{same_token}
use Rattle.subst_foreign.proofs.ReadingLemmas.{token_some}
use Rattle.subst_foreign.specs.Foreign.{is_inside}
use Rattle.subst_foreign.specs.Grammar.{Grammar, Opened, head_text}
use Rattle.subst_foreign.specs.Reading.{Token, IsFront, IsToken, token_text, depth_after, outermost_at, refused_at, IsReading, IsRefusalOf, Reading}
use Rattle.subst_foreign.specs.Reading as tokens
use Rattle.subst_foreign.specs.Reading.Reading.{ended, unclosed, token}
use Rattle.subst_foreign.specs.Text.{Item, Text, Empty, Then, item_spelling, spelling, IsItem, IsText}
use Rattle.subst_foreign.specs.Text as text
use Rattle.subst_foreign.specs.declared.refused.FormAt.{FormAt}
use Rattle.subst_foreign.specs.declared.refused.TextError.TheVariants as error
use Rattle.subst_language.proofs.Language.ListLemmas.{rest_same}
use Rattle.subst_language.specs.Language.Bytes.{opening_brace, closing_brace}

-- a text is read without refused forms, wherever it and the outermost open variable begin
abbrev ReadsOn : Grammar → (depth : ℕ) → List ℕ → Type 0
ReadsOn g depth s = (outermost position : ℕ) → Reading g outermost position depth s []

-- a closing brace is read before a text that is read
closes_text : (g : Grammar) (depth : ℕ) (x : List ℕ) → ReadsOn g depth x → ReadsOn g (suc depth) (closing_brace ∷ x)
closes_text g depth x next outermost position =
    token tokens.Closing x (omega arith) (next outermost (position + 1))

mutual
  -- an item is read before a text that is read
  item_reads : (g : Grammar) (depth : ℕ) (item : Item) (x : List ℕ) → IsItem g (is_inside depth) item x
      → ReadsOn g depth x → ReadsOn g depth (item_spelling item ++ x)
  item_reads g depth (text.Byte b) x is next outermost position =
      token (tokens.Byte b) x is (next (outermost_at depth outermost position) (position + 1))
  item_reads g depth (text.Whole h) x is next outermost position =
      token (tokens.Whole h) x is (next (outermost_at depth outermost position) (position + length (head_text h)))
  item_reads g depth (text.Operated n op t) x is next outermost position =
      rw (append_assoc (head_text (Opened n op)) (spelling t ++ closing_brace ∷ []) x)
      (rw (append_assoc (spelling t) (closing_brace ∷ []) x)
      (token (tokens.Opens n op) (spelling t ++ closing_brace ∷ x) (is.0, is.1)
      (text_reads g (suc depth) t (closing_brace ∷ x) is.2 (closes_text g depth x next)
      (outermost_at depth outermost position) (position + length (head_text (Opened n op))))))
  item_reads g depth (text.Required n op m) x is next outermost position =
      token (tokens.Required n op m) x is
      (next (outermost_at depth outermost position) (position + length (token_text (tokens.Required n op m))))
  item_reads g zero (text.Group t) x is next outermost position = absurd cc
  item_reads g (suc depth) (text.Group t) x is next outermost position =
      rw (append_assoc (spelling t) (closing_brace ∷ []) x)
      (token {depth = suc depth} tokens.Opening (spelling t ++ closing_brace ∷ x) (omega arith, is.1)
      (text_reads g (suc (suc depth)) t (closing_brace ∷ x) is.2 (closes_text g (suc depth) x next)
      (outermost_at (suc depth) outermost position) (position + 1)))

  -- a text is read before a text that is read
  text_reads : (g : Grammar) (depth : ℕ) (t : Text) (x : List ℕ) → IsText g (is_inside depth) t x
      → ReadsOn g depth x → ReadsOn g depth (spelling t ++ x)
  text_reads g depth Empty x is next = next
  text_reads g depth (Then item rest) x is next =
      rw (append_assoc (item_spelling item) (spelling rest) x)
      (item_reads g depth item (spelling rest ++ x) is.0 (text_reads g depth rest x is.1 next))

-- in a text of the grammar nothing is refused
pub text_is_read : (g : Grammar) (t : Text) → IsText g false t [] → Reading g 0 0 0 (spelling t) []
text_is_read g t is =
    rw (append-nil (spelling t)) at (text_reads g 0 t [] is (λ outermost position. ended) 0 0)

-- a token isn't empty
pub some_text : (g : Grammar) (depth : ℕ) (t : Token) (x y : List ℕ) → IsToken g depth t x
    → ¬ ([] ≡ token_text t ++ y)
some_text g depth t x y is same = search (rules, token_some)

-- equal texts are read in one way
readings_same : (g : Grammar) (outermost position depth : ℕ) (s z : List ℕ) (r q : List FormAt)
    → Reading g outermost position depth s r → Reading g outermost position depth z q → s ≡ z → r ≡ q
readings_same g outermost position _ _ _ _ _ ended ended same = refl
readings_same g outermost position _ _ _ _ _ unclosed unclosed same = refl
readings_same g outermost position depth _ _ _ _ ended (token u y too after) same = search (rules, some_text)
readings_same g outermost position depth _ _ _ _ unclosed (token u y too after) same = search rules
readings_same g outermost position depth _ _ _ _ (token t x is next) ended same = search (rules, some_text)
readings_same g outermost position depth _ _ _ _ (token t x is next) unclosed same = search (rules, some_text)
readings_same g outermost position depth _ _ _ _ (token {refused = r} t x is next) (token {refused = q} u y too w)
    same =
    let tokens = same_token g depth t u x y is too same in
    let at = position + length (token_text t) in
    let after = depth_after depth t in
    let rests =
    readings_same g (outermost_at depth outermost position) at after x y r q next (rw tokens.0 w) tokens.1 in
    cc (tokens.0, rests)

-- a text is read in one way
pub same_reading : (g : Grammar) (outermost position depth : ℕ) (s : List ℕ) (r q : List FormAt)
    → Reading g outermost position depth s r → Reading g outermost position depth s q → r ≡ q
same_reading g outermost position depth s r q is other = search (rules, readings_same)

-- the first token of an item, and the text after it
abbrev first_token : Item → Token
first_token (text.Byte b) = tokens.Byte b
first_token (text.Whole h) = tokens.Whole h
first_token (text.Operated n op t) = tokens.Opens n op
first_token (text.Required n op m) = tokens.Required n op m
first_token (text.Group t) = tokens.Opening

abbrev after_first : Item → List ℕ → List ℕ
after_first (text.Operated n op t) x = spelling t ++ closing_brace ∷ x
after_first (text.Group t) x = spelling t ++ closing_brace ∷ x
after_first _ x = x

first_is : (g : Grammar) (depth : ℕ) (item : Item) (x : List ℕ) → IsItem g (is_inside depth) item x
    → IsToken g depth (first_token item) (after_first item x)
first_is g depth (text.Byte b) x is = is
first_is g depth (text.Whole h) x is = is
first_is g depth (text.Operated n op t) x is = (is.0, is.1)
first_is g depth (text.Required n op m) x is = is
first_is g zero (text.Group t) x is = absurd cc
first_is g (suc depth) (text.Group t) x is = (omega arith, is.1)

first_spelled : (item : Item) (x : List ℕ)
    → item_spelling item ++ x ≡ token_text (first_token item) ++ after_first item x
first_spelled (text.Operated n op t) x = search (rules, append_assoc)
first_spelled (text.Group t) x = ap (λ w. opening_brace ∷ w) (append_assoc (spelling t) (closing_brace ∷ []) x)
first_spelled _ x = refl

-- the end of a text: at depth 0 that of all bytes, and otherwise a closing brace
abbrev IsTextEnd : (depth : ℕ) → List ℕ → Type 0
IsTextEnd zero x = x ≡ []
IsTextEnd (suc depth) x = (y : List ℕ) × (x ≡ closing_brace ∷ y)

no_closing : (item : Item) → ¬ (tokens.Closing ≡ first_token item)
no_closing (text.Byte b) same = cc
no_closing _ same = cc

-- no item begins where a text ends
no_item : (g : Grammar) (depth : ℕ) (item : Item) (z x : List ℕ) → IsItem g (is_inside depth) item z
    → IsTextEnd depth x → ¬ (x ≡ item_spelling item ++ z)
no_item g zero item z x is ends same =
    search (rules, some_text, first_is, first_spelled)
no_item g (suc depth) item z x is (y, ends) same =
    search (rules, no_closing, same_token, first_is, first_spelled)

first_same_item : (g : Grammar) (depth : ℕ) (i j : Item) (t u : Text) (x y : List ℕ)
    → IsText g (is_inside depth) (Then i t) x → IsText g (is_inside depth) (Then j u) y
    → spelling (Then i t) ++ x ≡ spelling (Then j u) ++ y
    → (first_token i ≡ first_token j) × (after_first i (spelling t ++ x) ≡ after_first j (spelling u ++ y))
first_same_item g depth i j t u x y is other same =
    same_token g depth (first_token i) (first_token j) (after_first i (spelling t ++ x))
    (after_first j (spelling u ++ y)) (first_is g depth i (spelling t ++ x) is.0)
    (first_is g depth j (spelling u ++ y) other.0)
    (sym (append_assoc (item_spelling i) (spelling t) x ∙ first_spelled i (spelling t ++ x)) ∙ same
    ∙ append_assoc (item_spelling j) (spelling u) y ∙ first_spelled j (spelling u ++ y))

-- two texts with the same spelling up to their ends are equal
same_text : (g : Grammar) (depth : ℕ) (t u : Text) (x y : List ℕ) → IsText g (is_inside depth) t x
    → IsText g (is_inside depth) u y → IsTextEnd depth x → IsTextEnd depth y → spelling t ++ x ≡ spelling u ++ y
    → (t ≡ u) × (x ≡ y)
same_text g depth Empty Empty x y is other ends stops same = (refl, same)
same_text g depth Empty (Then j u) x y is other ends stops same =
    search (rules, no_item, append_assoc)
same_text g depth (Then i t) Empty x y is other ends stops same =
    search (rules, no_item, append_assoc)
same_text g depth (Then (text.Operated n op a) t) (Then (text.Operated m op' b) u) x y is other ends stops same =
    let first = first_same_item g depth (text.Operated n op a) (text.Operated m op' b) t u x y is other same in
    let inner =
    same_text g (suc depth) a b (closing_brace ∷ spelling t ++ x) (closing_brace ∷ spelling u ++ y) is.0.2 other.0.2
    (spelling t ++ x, refl) (spelling u ++ y, refl) first.1 in
    let rest = same_text g depth t u x y is.1 other.1 ends stops (rest_same inner.1) in
    (cc (first.0, inner.0, rest.0), rest.1)
same_text g depth (Then (text.Group a) t) (Then (text.Group b) u) x y is other ends stops same =
    let first = first_same_item g depth (text.Group a) (text.Group b) t u x y is other same in
    let inner =
    same_text g (suc depth) a b (closing_brace ∷ spelling t ++ x) (closing_brace ∷ spelling u ++ y) is.0.2 other.0.2
    (spelling t ++ x, refl) (spelling u ++ y, refl) first.1 in
    let rest = same_text g depth t u x y is.1 other.1 ends stops (rest_same inner.1) in
    (cc (inner.0, rest.0), rest.1)
same_text g depth (Then (text.Byte b) t) (Then (text.Byte c) u) x y is other ends stops same =
    let first = first_same_item g depth (text.Byte b) (text.Byte c) t u x y is other same in
    let rest = same_text g depth t u x y is.1 other.1 ends stops first.1 in
    (cc (first.0, rest.0), rest.1)
same_text g depth (Then (text.Whole h) t) (Then (text.Whole k) u) x y is other ends stops same =
    let first = first_same_item g depth (text.Whole h) (text.Whole k) t u x y is other same in
    let rest = same_text g depth t u x y is.1 other.1 ends stops first.1 in
    (cc (first.0, rest.0), rest.1)
same_text g depth (Then (text.Required n op m) t) (Then (text.Required k op' l) u) x y is other ends stops same =
    let first = first_same_item g depth (text.Required n op m) (text.Required k op' l) t u x y is other same in
    let rest = same_text g depth t u x y is.1 other.1 ends stops first.1 in
    (cc (first.0, rest.0), rest.1)
same_text g depth (Then i t) (Then j u) x y is other ends stops same =
    let first = first_same_item g depth i j t u x y is other same in absurd (cc (first.0))

-- a text is read as items in one way
pub one_text : (g : Grammar) (t u : Text) → IsText g false t [] → IsText g false u []
    → spelling t ≡ spelling u → t ≡ u
one_text g t u is other same = (same_text g 0 t u [] [] is other refl refl (ap (λ s. s ++ []) same)).0

-- a text from here on, with those that are open, up to their ends
abbrev IsSpelled : Grammar → (depth : ℕ) → List ℕ → Type 0
IsSpelled g zero s = (t : Text) × IsText g false t [] × (s ≡ spelling t)
IsSpelled g (suc depth) s =
    (t : Text) × (x : List ℕ) × IsText g true t (closing_brace ∷ x) × (s ≡ spelling t ++ closing_brace ∷ x)
    × IsSpelled g depth x

-- an item before a spelled text is one more of its items
spelled_before : (g : Grammar) (depth : ℕ) (item : Item) (x : List ℕ) → IsItem g (is_inside depth) item x
    → IsSpelled g depth x → IsSpelled g depth (item_spelling item ++ x)
spelled_before g zero item x is (t, each, spelled) = (
  Then item t,
  (subst (IsItem g false item) (spelled ∙ sym (append-nil (spelling t))) is, each),
  ap (λ w. item_spelling item ++ w) spelled,
)
spelled_before g (suc depth) item x is (t, y, each, spelled, outer) = (
  Then item t,
  y,
  (subst (IsItem g true item) spelled is, each),
  ap (λ w. item_spelling item ++ w) spelled
      ∙ sym (append_assoc (item_spelling item) (spelling t) (closing_brace ∷ y)),
  outer,
)

-- a token that isn't refused, before a text, is part of an item of it
token_spelled : (g : Grammar) (depth position : ℕ) (t : Token) (x : List ℕ) → IsToken g depth t x
    → refused_at position t ≡ [] → IsSpelled g (depth_after depth t) x → IsSpelled g depth (token_text t ++ x)
token_spelled g depth position (tokens.Byte b) x is none rest = spelled_before g depth (text.Byte b) x is rest
token_spelled g depth position (tokens.Whole h) x is none rest = spelled_before g depth (text.Whole h) x is rest
token_spelled g depth position (tokens.Opens n op) x is none (t, y, each, spelled, outer) =
    let item = text.Operated n op t in
    rw (ap (λ w. head_text (Opened n op) ++ w) spelled ∙ sym (first_spelled item y))
    (spelled_before g depth item y (is.0, rw (sym spelled) is.1, each) outer)
token_spelled g depth position (tokens.Required n op m) x is none rest =
    spelled_before g depth (text.Required n op m) x is rest
token_spelled g zero position tokens.Opening x is none rest = absurd (omega (arith, is.0))
token_spelled g (suc depth) position tokens.Opening x is none (t, y, each, spelled, outer) =
    let item = text.Group t in
    rw (ap (λ w. opening_brace ∷ w) spelled ∙ sym (first_spelled item y))
    (spelled_before g (suc depth) item y (refl, is.1, each) outer)
token_spelled g zero position tokens.Closing x is none rest = absurd (omega (arith, is))
token_spelled g (suc depth) position tokens.Closing x is none rest = (Empty, x, tt, refl, rest)
token_spelled g depth position (tokens.Refused f front) x is none rest = absurd cc

-- if two lists joined have no element, neither has one
no_front : {X : Type 0} (x y : List X) → x ++ y ≡ [] → (x ≡ []) × (y ≡ [])
no_front [] y none = (refl, none)
no_front (a ∷ x) y none = absurd cc

reading_spelled : (g : Grammar) (outermost position depth : ℕ) (s : List ℕ) (r : List FormAt)
    → Reading g outermost position depth s r → r ≡ [] → IsSpelled g depth s
reading_spelled g outermost position _ _ _ ended none = (Empty, tt, refl)
reading_spelled g outermost position _ _ _ unclosed none = absurd cc
reading_spelled g outermost position depth _ _ (token {refused = rest} t x is next) none =
    let parts = no_front (refused_at position t) rest none in
    token_spelled g depth position t x is parts.0
    (reading_spelled g (outermost_at depth outermost position) (position + length (token_text t))
    (depth_after depth t) x rest next parts.1)

-- a text without refused forms is a text of the grammar
pub read_text : (g : Grammar) (s : List ℕ) → IsReading g s []
    → (t : Text) × IsText g false t [] × (s ≡ spelling t)
read_text g s reading = reading_spelled g 0 0 0 s [] reading refl

-- a text of the grammar is never refused
pub never_refused : (g : Grammar) (t : Text) → IsText g false t [] → (first : FormAt)
    → ¬ (IsRefusalOf g (spelling t) (error.Refused first))
never_refused g t is first (others, reading) =
    let same = same_reading g 0 0 0 (spelling t) (first ∷ others) [] reading (text_is_read g t is) in cc
