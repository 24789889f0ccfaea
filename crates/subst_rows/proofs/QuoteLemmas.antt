-- The states of the machine of `csv` over a text, and the quotes that open cells.
use Rattle.std.proofs.Common.{◌≡◌, ◌≢◌, ℕ, zero, suc, ◌+◌, ◌<◌, ◌≤◌, Bool, true, false, Some, List, [], ◌∷◌, ◌++◌, take, drop, get_or, length, length-drop, take-add, refl, sym, ap, ◌∙◌, subst, arith}
use Rattle.std.proofs.lemmas.List.{take-append-drop, take_all, take_more}
use Rattle.std.proofs.lemmas.Bool.{false≢true}
use Rattle.std.proofs.lemmas.Bool.Decides.{nat_tests}
use Rattle.std.specs.Prelude.{◌==◌, ◌||◌, IsTrue, slice_get, if◌then◌else◌}
use Rattle.std.specs.List.{AllByRecursion}
use Rattle.csv.specs.Machine.{in_field, start_record, step}
use Rattle.csv.specs.declared.parser.State.TheVariants as st
use Rattle.csv.specs.declared.parser.Action.{Action}
use Rattle.csv.specs.declared.parser.Action.TheVariants as act
use Rattle.csv.specs.declared.parser.Config.{Config}
use Rattle.csv.specs.declared.parser.State.{State}
use Rattle.subst_rows.proofs.ListLemmas.{not_true}
use Rattle.subst_rows.specs.Quotes.{EndsInQuotes, IsPlace, next_place, opens, place_after, place_of_last, state_after, table_config}
use Rattle.subst_rows.specs.declared.quotes.Place.{Place}
use Rattle.subst_rows.specs.declared.quotes.Place.TheVariants.{Start, Plain, Quoted, Closed}

-- one more byte
pub state_after-push : (config : Config) (s : State) (xs : List ℕ) (b : ℕ)
    → state_after config s (xs ++ b ∷ []) ≡ (step config (state_after config s xs) b).0
state_after-push config s [] b = refl
state_after-push config s (x ∷ xs) b = state_after-push config (step config s x).0 xs b

-- inside quotes, the byte at the last offset is a quote
pub quoted_on : (text : List ℕ) (place next : Place) (at opened result : ℕ)
    → result ≡ (if opens place next then at else opened)
    → (place ≢ Quoted → place ≢ Closed → next ≡ Quoted → IsTrue (opens place next))
    → (place ≡ Quoted → slice_get text opened ≡ Some 34) → (place ≡ Closed → slice_get text opened ≡ Some 34)
    → slice_get text at ≡ Some 34 → next ≡ Quoted → slice_get text result ≡ Some 34
quoted_on text Start next at opened result is inside before closed here quoted =
    let opened_here : opens Start next ≡ true = inside (λ e. cc) (λ e. cc) quoted in
    ap (slice_get text) (is ∙ ap (λ b. if b then at else opened) opened_here) ∙ here
quoted_on text Plain next at opened result is inside before closed here quoted =
    absurd (false≢true (inside (λ e. cc) (λ e. cc) quoted))
quoted_on text Quoted next at opened result is inside before closed here quoted =
    ap (slice_get text) is ∙ before refl
quoted_on text Closed next at opened result is inside before closed here quoted =
    ap (slice_get text) is ∙ closed refl

-- a quote inside quotes leaves the last offset
pub closed_on : (text : List ℕ) (place next : Place) (at opened result : ℕ)
    → result ≡ (if opens place next then at else opened) → place ≡ Quoted
    → (place ≡ Quoted → slice_get text opened ≡ Some 34) → slice_get text result ≡ Some 34
closed_on text place next at opened result is quoted before =
    ap (slice_get text) (is ∙ ap (λ p. if opens p next then at else opened) quoted) ∙ before quoted

-- states after bytes in a row
pub state_after-append : (config : Config) (s : State) (xs ys : List ℕ)
    → state_after config s (xs ++ ys) ≡ state_after config (state_after config s xs) ys
state_after-append config s [] ys = refl
state_after-append config s (x ∷ xs) ys = state_after-append config (step config s x).0 xs ys

-- the place of a cell without quotes after a byte
cell_place : (d b : ℕ) (delimits returns feeds : Bool) → (b == d) ≡ delimits → (b == 13) ≡ returns
    → (b == 10) ≡ feeds
    → IsPlace (if delimits || returns || feeds then Start else Plain) (in_field (table_config d) b).0
cell_place d b true returns feeds e1 e2 e3 = rw e1 tt
cell_place d b false true feeds e1 e2 e3 = rw (e1, e2) tt
cell_place d b false false true e1 e2 e3 = rw (e1, e2, e3) tt
cell_place d b false false false e1 e2 e3 = rw (e1, e2, e3) tt

-- the same at the start of a record, where a line end leaves the state
record_place : (d b : ℕ) (delimits returns feeds : Bool) → (b == 34) ≡ false → (b == d) ≡ delimits
    → (b == 13) ≡ returns → (b == 10) ≡ feeds
    → IsPlace (if delimits || returns || feeds then Start else Plain) (start_record (table_config d) b).0
record_place d b true true feeds e e1 e2 e3 = rw e2 tt
record_place d b true false true e e1 e2 e3 = rw (e2, e3) tt
record_place d b true false false e e1 e2 e3 = rw (e2, e3, e, e1) tt
record_place d b false true feeds e e1 e2 e3 = rw e2 tt
record_place d b false false true e e1 e2 e3 = rw (e2, e3) tt
record_place d b false false false e e1 e2 e3 = rw (e2, e3, e, e1) tt

-- the same after a carriage return, where a line feed is passed over
after_return_place : (d b : ℕ) (feeds : Bool) → (b == 34) ≡ false → (b == 10) ≡ feeds
    → IsPlace (place_of_last d b) (step (table_config d) st.AfterCr b).0
after_return_place d b true e e3 = rw (e3, or_true (b == d) (b == 13)) tt
  where
    or_true : (x y : Bool) → (x || y || true) ≡ true
    or_true true y = refl
    or_true false true = refl
    or_true false false = refl
after_return_place d b false e e3 =
    let passed : step (table_config d) st.AfterCr b ≡ start_record (table_config d) b =
    ap (λ feeds. if feeds then (st.StartRecord, act.Skip) else start_record (table_config d) b) e3
    in
    subst (λ (it : State × Action). IsPlace (place_of_last d b) it.0) (sym passed)
    (record_place d b (b == d) (b == 13) (b == 10) e refl refl refl)

-- one more byte that isn't a quote
byte_place : (d b : ℕ) (place : Place) (s : State) → (b == 34) ≡ false → IsPlace place s
    → IsPlace (next_place d place b) (step (table_config d) s b).0
byte_place d b Start st.StartRecord e is = record_place d b (b == d) (b == 13) (b == 10) e refl refl refl
byte_place d b Start st.AfterCr e is = after_return_place d b (b == 10) e refl
byte_place d b Start st.StartField e is = rw e (cell_place d b (b == d) (b == 13) (b == 10) refl refl refl)
byte_place d b Plain st.InField e is = cell_place d b (b == d) (b == 13) (b == 10) refl refl refl
byte_place d b Quoted st.InQuoted e is = rw e tt
byte_place d b Closed st.AfterQuote e is = rw e (cell_place d b (b == d) (b == 13) (b == 10) refl refl refl)
byte_place d b place s e is = absurd is

-- bytes that aren't quotes
abbrev pub NoQuotes : List ℕ → Type 0
NoQuotes bytes = AllByRecursion (λ b. (b == 34) ≡ false) bytes

pub run_place : (d : ℕ) (place : Place) (s : State) (bytes : List ℕ) → NoQuotes bytes → IsPlace place s
    → IsPlace (place_after d place bytes) (state_after (table_config d) s bytes)
run_place d place s [] none is = is
run_place d place s (b ∷ bytes) none is =
    run_place d (next_place d place b) (step (table_config d) s b).0 bytes none.1 (byte_place d b place s none.0 is)

-- inside quotes, bytes that aren't quotes leave the place
pub quoted_stays : (d : ℕ) (bytes : List ℕ) → place_after d Quoted bytes ≡ Quoted
quoted_stays d [] = refl
quoted_stays d (b ∷ bytes) = quoted_stays d bytes

-- outside of them, the place is that of the last byte
of_last_outside : (d b : ℕ) → place_of_last d b ≢ Quoted
of_last_outside d b = of (b == d || b == 13 || b == 10)
  where
    of : (ends : Bool) → (if ends then Start else Plain) ≢ Quoted
    of true e = cc
    of false e = cc

next_outside : (d b : ℕ) (place : Place) → place ≢ Quoted → next_place d place b ≡ place_of_last d b
next_outside d b Start outside = refl
next_outside d b Plain outside = refl
next_outside d b Closed outside = refl
next_outside d b Quoted outside = absurd (outside refl)

pub place_by_last : (d : ℕ) (place : Place) (bytes : List ℕ) (n : ℕ) → place ≢ Quoted → length bytes ≡ n + 1
    → place_after d place bytes ≡ place_of_last d (get_or bytes n 0)
place_by_last d place [] n outside long = absurd (omega arith)
place_by_last d place (b ∷ []) n outside long =
    next_outside d b place outside ∙ ap (λ k. place_of_last d (get_or (b ∷ []) k 0)) (zero_left n (omega arith))
  where
    zero_left : (n : ℕ) → n ≡ 0 → 0 ≡ n
    zero_left n is = sym is
place_by_last d place (b ∷ c ∷ bytes) zero outside long = absurd (omega arith)
place_by_last d place (b ∷ c ∷ bytes) (suc n) outside long =
    place_by_last d (next_place d place b) (c ∷ bytes) n
    (λ quoted. of_last_outside d b (sym (next_outside d b place outside) ∙ quoted)) (omega arith)

-- outside of quotes, bytes that aren't quotes leave the place outside
stays_outside : (d : ℕ) (place : Place) (bytes : List ℕ) → place ≢ Quoted → place_after d place bytes ≢ Quoted
stays_outside d place [] outside = outside
stays_outside d place (b ∷ bytes) outside =
    stays_outside d (next_place d place b) bytes
    (λ quoted. of_last_outside d b (sym (next_outside d b place outside) ∙ quoted))

-- the place inside quotes is that of the state inside quotes
quoted_state : (s : State) → IsPlace Quoted s → s ≡ st.InQuoted
quoted_state st.InQuoted is = refl
quoted_state s is = absurd is

quoted_place : (place : Place) → IsPlace place st.InQuoted → place ≡ Quoted
quoted_place Quoted is = refl
quoted_place place is = absurd is

-- no byte before an index is a quote
pub no_quotes : (xs : List ℕ) (n : ℕ) → ((k : ℕ) → k < n → (get_or xs k 0 == 34) ≡ false) → NoQuotes (take n xs)
no_quotes [] zero none = tt
no_quotes [] (suc n) none = tt
no_quotes (x ∷ xs) zero none = tt
no_quotes (x ∷ xs) (suc n) none =
    (none 0 (omega arith), no_quotes xs n (λ k small. none (suc k) (omega arith)))

module _ (d : ℕ) (text : List ℕ) (at : ℕ) (place : Place)
    (is : IsPlace place (state_after (table_config d) st.StartRecord (take at text))) where
  -- the place after the next quote
  pub quote_step : (found : ℕ) (before after : Place) → found < length (drop at text)
      → ((k : ℕ) → k < found → (get_or (drop at text) k 0 == 34) ≡ false) → get_or text (at + found) 0 ≡ 34
      → before ≡ place_after d place (take found (drop at text))
      → ((s : State) → IsPlace before s → IsPlace after (step (table_config d) s 34).0)
      → IsPlace after (state_after (table_config d) st.StartRecord (take (at + found + 1) text))
  quote_step found before after below none quote same steps =
      let config = table_config d in
      let bytes = take found (drop at text) in
      let front : take (at + found + 1) text ≡ take at text ++ bytes ++ 34 ∷ [] =
      take_more text (at + found) 0 (omega (arith, below, length-drop at text))
      ∙ ap (λ xs. xs ++ get_or text (at + found) 0 ∷ []) (take-add at found text)
      ∙ ap (λ b. take at text ++ bytes ++ b ∷ []) quote
      in
      let start = state_after config st.StartRecord (take at text) in
      let state : state_after config st.StartRecord (take (at + found + 1) text)
      ≡ (step config (state_after config start bytes) 34).0 =
      ap (state_after config st.StartRecord) front
      ∙ state_after-push config st.StartRecord (take at text ++ bytes) 34
      ∙ ap (λ s. (step config s 34).0) (state_after-append config st.StartRecord (take at text) bytes)
      in
      subst (IsPlace after) (sym state)
      (steps (state_after config start bytes)
      (subst (λ p. IsPlace p (state_after config start bytes)) (sym same)
      (run_place d place start bytes (no_quotes (drop at text) found none) is)))

  -- the place at the end of the text
  end_place : ((k : ℕ) → k < length (drop at text) → (get_or (drop at text) k 0 == 34) ≡ false)
      → IsPlace (place_after d place (drop at text)) (state_after (table_config d) st.StartRecord text)
  end_place none =
      let config = table_config d in
      let rest = drop at text in
      let whole : take (length rest) rest ≡ rest = take_all (length rest) rest (omega arith) in
      let run = run_place d place (state_after config st.StartRecord (take at text)) rest
      (subst NoQuotes whole (no_quotes rest (length rest) none)) is
      in
      subst (IsPlace (place_after d place rest))
      (sym (state_after-append config st.StartRecord (take at text) rest)
      ∙ ap (state_after config st.StartRecord) (take-append-drop at text)) run

  pub ends_quoted : ((k : ℕ) → k < length (drop at text) → (get_or (drop at text) k 0 == 34) ≡ false)
      → place ≡ Quoted → EndsInQuotes d text
  ends_quoted none quoted =
      let end = ap (λ p. place_after d p (drop at text)) quoted ∙ quoted_stays d (drop at text) in
      quoted_state (state_after (table_config d) st.StartRecord text)
      (subst (λ p. IsPlace p (state_after (table_config d) st.StartRecord text)) end (end_place none))

  pub ends_outside : ((k : ℕ) → k < length (drop at text) → (get_or (drop at text) k 0 == 34) ≡ false)
      → place ≢ Quoted → EndsInQuotes d text → ⊥
  ends_outside none outside ends =
      stays_outside d place (drop at text) outside
      (quoted_place (place_after d place (drop at text))
      (subst (IsPlace (place_after d place (drop at text))) ends (end_place none)))

-- the place before a quote is one of those before the bytes, if it isn't that of the last byte
before_quoted : (d : ℕ) (place : Place) (bytes : List ℕ) → place_after d place bytes ≡ Quoted → place ≡ Quoted
before_quoted d Quoted bytes is = refl
before_quoted d Start bytes is = absurd (stays_outside d Start bytes (λ e. cc) is)
before_quoted d Plain bytes is = absurd (stays_outside d Plain bytes (λ e. cc) is)
before_quoted d Closed bytes is = absurd (stays_outside d Closed bytes (λ e. cc) is)

next_not_closed : (d b : ℕ) (place : Place) → next_place d place b ≢ Closed
next_not_closed d b place = of place (b == d || b == 13 || b == 10) refl
  where
    of : (place : Place) (ends : Bool) → (b == d || b == 13 || b == 10) ≡ ends → next_place d place b ≢ Closed
    of Quoted ends is e = cc
    of Start true is e = let f : Start ≡ Closed = ap (λ x. if x then Start else Plain) (sym is) ∙ e in cc
    of Start false is e = let f : Plain ≡ Closed = ap (λ x. if x then Start else Plain) (sym is) ∙ e in cc
    of Plain true is e = let f : Start ≡ Closed = ap (λ x. if x then Start else Plain) (sym is) ∙ e in cc
    of Plain false is e = let f : Plain ≡ Closed = ap (λ x. if x then Start else Plain) (sym is) ∙ e in cc
    of Closed true is e = let f : Start ≡ Closed = ap (λ x. if x then Start else Plain) (sym is) ∙ e in cc
    of Closed false is e = let f : Plain ≡ Closed = ap (λ x. if x then Start else Plain) (sym is) ∙ e in cc

before_closed : (d : ℕ) (place : Place) (bytes : List ℕ) → place_after d place bytes ≡ Closed → place ≡ Closed
before_closed d place [] is = is
before_closed d place (b ∷ bytes) is =
    absurd (next_not_closed d b place (before_closed d (next_place d place b) bytes is))

-- what holds inside quotes holds before a quote
pub before_quote : (d : ℕ) (place before : Place) (bytes : List ℕ) (P : Type 0)
    → before ≡ place_after d place bytes → (place ≡ Quoted → P) → (place ≡ Closed → P)
    → (before ≡ Quoted → P) × (before ≡ Closed → P)
before_quote d place before bytes P is quoted closed = (
  λ e. quoted (before_quoted d place bytes (sym is ∙ e)),
  λ e. closed (before_closed d place bytes (sym is ∙ e)),
)

-- the byte that was found is a quote
pub quote_is : (b : ℕ) → (b == 34) ≡ true → b ≡ 34
quote_is b is = grind (arith, nat_tests, is)

-- no byte that was searched is one
pub none_in : (hay xs : List ℕ) → hay ≡ xs → (n : ℕ)
    → ((k : ℕ) → 0 ≤ k → k < n → ¬ ((get_or hay k 0 == 34) ≡ true))
    → (k : ℕ) → k < n → (get_or xs k 0 == 34) ≡ false
none_in hay xs is n none k below =
    not_true (get_or xs k 0 == 34)
    (λ e. none k (omega arith) below (ap (λ it. get_or it k 0 == 34) is ∙ e))
