-- The collections that are open after events, and the reader's state of them.
use Rattle.std.proofs.Common.{◌≡◌, ℕ, ◌-◌, Bool, true, false, not, ◌&&◌, List, [], ◌∷◌, ◌++◌, Option, Some, None, length, map, take, refl, sym, ap, ◌∙◌}
use Rattle.std.specs.Prelude.{IfSome, if◌then◌else◌, option_and_then, option_map, slice_get}
use Rattle.subst_yaml_reader.specs.Block.{is_value}
use Rattle.subst_yaml_reader.specs.Nesting.{Nest, after_event, after_events, has_none}
use Rattle.subst_yaml_reader.specs.State.{State, closed, emit, opened, placed, with_next}
use Rattle.subst_yaml_reader.specs.declared.event.Bracket.{Bracket}
use Rattle.subst_yaml_reader.specs.declared.event.Event.{Event}
use Rattle.subst_yaml_reader.specs.declared.event.Event.TheVariants.{Close, Open}
use Rattle.subst_yaml_reader.specs.declared.reader.Collection.{Collection}
use Rattle.subst_yaml_reader.specs.declared.reader.Kind.{Kind}
use Rattle.subst_yaml_reader.specs.declared.reader.Next.{Next}
use Rattle.subst_yaml_reader.specs.declared.reader.Next.TheVariants as next
use Rattle.subst_yaml_reader.specs.declared.scalar.Properties.{Properties}

-- Lemmas about optional values.
pub if_some : {A : Type 0} (P : A → Type 0) (b : Bool) (x y : Option A) → (b ≡ true → IfSome x P)
    → (b ≡ false → IfSome y P) → IfSome (if b then x else y) P
if_some P true x y holds fails = holds refl
if_some P false x y holds fails = fails refl

pub and_then : {A B : Type 0} (P : B → Type 0) (o : Option A) (f : A → Option B)
    → ((a : A) → o ≡ Some a → IfSome (f a) P) → IfSome (option_and_then f o) P
and_then P None f each = tt
and_then P (Some a) f each = each a refl

pub bind_some : {A B : Type 0} (P : A → Type 0) (Q : B → Type 0) (o : Option A) (f : A → Option B)
    → IfSome o P
    → ((a : A) → P a → IfSome (f a) Q) → IfSome (option_and_then f o) Q
bind_some P Q None f has each = tt
bind_some P Q (Some a) f has each = each a has

pub map_some : {A B : Type 0} (P : A → Type 0) (Q : B → Type 0) (o : Option A) (f : A → B) → IfSome o P
    → ((a : A) → P a → Q (f a)) → IfSome (option_map f o) Q
map_some P Q None f has each = tt
map_some P Q (Some a) f has each = each a has

pub and_false : (x : Bool) → (x && false) ≡ false
and_false true = refl
and_false false = refl

pub has_some : (brackets : List Bracket) (b : Bracket) → has_none (brackets ++ b ∷ []) ≡ false
has_some [] b = refl
has_some (x ∷ rest) b = refl

pub last_of : {A : Type 0} (xs : List A) (x : A) → slice_get (xs ++ x ∷ []) (length xs) ≡ Some x
last_of [] x = refl
last_of (y ∷ ys) x = last_of ys x

-- one more event
emitted_by : (o : Option Nest) (es : List Event) (e : Event) (m k : Nest)
    → ((p : Nest) → after_events es p ≡ Some m → after_events (es ++ e ∷ []) p ≡ Some k)
    → (elim o [ None ↦ None | Some p ↦ after_events es p ]) ≡ Some m
    → (elim o [ None ↦ None | Some p ↦ after_events (es ++ e ∷ []) p ]) ≡ Some k
emitted_by None es e m k later is = cc
emitted_by (Some p) es e m k later is = later p is

pub emitted : (es : List Event) (e : Event) (n m k : Nest) → after_events es n ≡ Some m
    → after_event e m ≡ Some k
    → after_events (es ++ e ∷ []) n ≡ Some k
emitted [] e n m k is goes = let same : n ≡ m = cc in
    ap (λ p. after_events (e ∷ []) p) same ∙ ap (λ o. elim o [ None ↦ None | Some p ↦ Some p ]) goes
emitted (x ∷ es) e n m k is goes =
    emitted_by (after_event x n) es e m k (λ p later. emitted es e p m k later goes) is

-- more events
append_by : (o : Option Nest) (es later : List Event) (k : Nest)
    → ((p : Nest) → after_events es p ≡ Some k → after_events (es ++ later) p ≡ after_events later k)
    → (elim o [ None ↦ None | Some p ↦ after_events es p ]) ≡ Some k
    → (elim o [ None ↦ None | Some p ↦ after_events (es ++ later) p ]) ≡ after_events later k
append_by None es later k goes is = cc
append_by (Some p) es later k goes is = goes p is

pub appended : (es later : List Event) (n k : Nest) → after_events es n ≡ Some k
    → after_events (es ++ later) n ≡ after_events later k
appended [] later n k is = let same : n ≡ k = cc in rw same refl
appended (x ∷ es) later n k is =
    append_by (after_event x n) es later k (λ p goes. appended es later p k goes) is

-- the kinds of collections
abbrev pub kinds : List Collection → List Kind
kinds blocks = map (λ block. block.kind) blocks

abbrev pub is_ended : Next → Bool
is_ended next.Ended = true
is_ended _ = false

abbrev pub is_start : Next → Bool
is_start next.Start = true
is_start _ = false

abbrev pub opened_nest : Bracket → Nest → Nest
opened_nest b n = record n { brackets = n.brackets ++ b ∷ []; is_due = false }

abbrev pub closed_nest : Nest → Nest
closed_nest n = record n { brackets = take (length n.brackets - 1) n.brackets }

-- The open collections after events that follow where m is open.
module _ (m : Nest) where
  -- The open collections after the events of a reader are those in its state. After `...` the state has none.
  pub record Tied (s : State) (n : Nest) : Type 0 where
    pub nested : after_events s.events m ≡ Some n
    pub brackets : n.brackets ≡ s.brackets
    pub due : (is_ended s.next && has_none s.brackets) ≡ false
        → n.is_due ≡ (has_none s.brackets && is_value s.next)
    pub blocks : (is_ended s.next && has_none s.brackets) ≡ false → n.blocks ≡ kinds s.blocks
    pub start : is_start s.next ≡ true → s.blocks ≡ []

  abbrev pub IsTied : State → Type 0
  IsTied s = (n : Nest) × Tied s n

  -- for a state and the text that is left
  abbrev pub IsTiedTurn : State × List ℕ → Type 0
  IsTiedTurn (s, text) = IsTied s

  -- spots and properties don't matter
  pub placed_tied : (fresh : Bool) (line : ℕ) (s : State) → IsTied s → IsTied (placed fresh line s)
  placed_tied fresh line s (n, t) = (
    n,
    record {
      nested = t.nested;
      brackets = t.brackets;
      due = t.due;
      blocks = t.blocks;
      start = t.start;
    },
  )

  pub pending_tied : (fresh : Bool) (line : ℕ) (both : Properties) (s : State) → IsTied s
      → IsTied (placed fresh line (record s { pending = both }))
  pending_tied fresh line both s (n, t) = (
    n,
    record {
      nested = t.nested;
      brackets = t.brackets;
      due = t.due;
      blocks = t.blocks;
      start = t.start;
    },
  )

  -- Inside brackets and after the last one, no value is due outside.
  pub record InFlow (s : State) (n : Nest) : Type 0 where
    pub nested : after_events s.events m ≡ Some n
    pub brackets : n.brackets ≡ s.brackets
    pub blocks : n.blocks ≡ kinds s.blocks
    pub not_due : n.is_due ≡ false

  pub flow_of : (s : State) (n : Nest) → Tied s n → has_none s.brackets ≡ false → InFlow s n
  flow_of s n t inside = record {
    nested = t.nested;
    brackets = t.brackets;
    blocks = t.blocks (rw inside (and_false (is_ended s.next)));
    not_due = t.due (rw inside (and_false (is_ended s.next))) ∙ rw inside refl;
  }

  pub settled : (to : Next) (s : State) (n : Nest) → InFlow s n → is_value to ≡ false → is_start to ≡ false
      → IsTied (with_next to s)
  settled to s n f other later = (
    n,
    record {
      nested = f.nested;
      brackets = f.brackets;
      due = λ _. f.not_due ∙ sym (rw other (and_false (has_none s.brackets)));
      blocks = λ _. f.blocks;
      start = λ start. cc;
    },
  )

  pub settled_value : (s : State) (n : Nest) → InFlow s n → has_none s.brackets ≡ false
      → IsTied (with_next next.Value s)
  settled_value s n f inside = (
    n,
    record {
      nested = f.nested;
      brackets = f.brackets;
      due = λ _. f.not_due ∙ sym (rw inside refl);
      blocks = λ _. f.blocks;
      start = λ start. cc;
    },
  )

  pub flow_emit : (e : Event) (s : State) (n : Nest) → InFlow s n → after_event e n ≡ Some n
      → InFlow (emit e s) n
  flow_emit e s n f goes = record {
    nested = emitted s.events e m n n f.nested goes;
    brackets = f.brackets;
    blocks = f.blocks;
    not_due = f.not_due;
  }

  pub flow_next : (to : Next) (s : State) (n : Nest) → InFlow s n → InFlow (with_next to s) n
  flow_next to s n f = record {
    nested = f.nested;
    brackets = f.brackets;
    blocks = f.blocks;
    not_due = f.not_due;
  }

  pub flow_opened : (b : Bracket) (s : State) (n : Nest) → after_events s.events m ≡ Some n
      → n.brackets ≡ s.brackets → n.blocks ≡ kinds s.blocks → (has_none n.brackets && not n.is_due) ≡ false
      → InFlow (opened b s) (opened_nest b n)
  flow_opened b s n nested brackets blocks may = record {
    nested = emitted s.events (Open b) m n (opened_nest b n) nested (rw may refl);
    brackets = ap (λ bs. bs ++ b ∷ []) brackets;
    blocks = blocks;
    not_due = refl;
  }

  pub flow_closed : (s : State) (n : Nest) → InFlow s n → has_none s.brackets ≡ false
      → InFlow (closed s) (closed_nest n)
  flow_closed s n f inside = record {
    nested = emitted s.events Close m n (closed_nest n) f.nested (rw (f.brackets, inside) refl);
    brackets = ap (λ bs. take (length bs - 1) bs) f.brackets;
    blocks = f.blocks;
    not_due = f.not_due;
  }
