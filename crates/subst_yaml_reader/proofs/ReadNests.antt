-- The events of a text are nested.
use Rattle.std.proofs.Common.{◌≡◌, ℕ, zero, suc, ◌+◌, ◌-◌, true, false, List, [], ◌∷◌, ◌++◌, Option, Some, None, length, refl, subst, ◌∙◌, arith}
use Rattle.std.specs.Prelude.{IfSome, option_map}
use Rattle.std.proofs.lemmas.Option.{slice_get-get_or}
use Rattle.subst_yaml_reader.specs.Block.{block_turn}
use Rattle.subst_yaml_reader.specs.Flow.{flow_turn}
use Rattle.subst_yaml_reader.specs.Nesting.{IsNested, Nest, after_events, has_none, no_nest}
use Rattle.subst_yaml_reader.specs.Reading.{after_directive, events_at, events_from, events_of, finish, read, turn}
use Rattle.subst_yaml_reader.specs.Runs.{after_lines, is_text}
use Rattle.subst_yaml_reader.specs.State.{State, initial, innermost, without_events}
use Rattle.subst_yaml_reader.specs.declared.event.Bracket.{Bracket}
use Rattle.subst_yaml_reader.specs.declared.event.Event.{Event}
use Rattle.subst_yaml_reader.proofs.BlockNests.{block_turn_tied}
use Rattle.subst_yaml_reader.proofs.FlowNests.{flow_turn_tied}
use Rattle.subst_yaml_reader.proofs.NestLemmas.{IsTied, IsTiedTurn, Tied, appended, if_some, map_some}

last_none : (brackets : List Bracket) → innermost brackets ≡ None → brackets ≡ []
last_none [] none = refl
last_none (b ∷ rest) none =
    let some = slice_get-get_or (b ∷ rest) (length (b ∷ rest) - 1) b (omega arith) in cc

last_some : (brackets : List Bracket) (b : Bracket) → innermost brackets ≡ Some b → has_none brackets ≡ false
last_some [] b some = cc
last_some (x ∷ rest) b some = refl

turn_tied : (m : Nest) (s : State) (text : List ℕ) → IsTied m s → IfSome (turn s text) (IsTiedTurn m)
unfolding turn
turn_tied m s text (n, t) = by_last (innermost s.brackets) refl
  where
    by_last : (o : Option Bracket) → innermost s.brackets ≡ o
        → IfSome (elim o [ None ↦ block_turn s text | Some b ↦ flow_turn s text ]) (IsTiedTurn m)
    by_last None is = block_turn_tied m s text n t (last_none s.brackets is)
    by_last (Some b) is = flow_turn_tied m s text n t (last_some s.brackets b is)

-- Each event may follow those before it, from these open collections on, and all brackets are closed.
abbrev IsNestedFrom : Nest → List Event → Type 0
IsNestedFrom n events = (k : Nest) × (after_events events n ≡ Some k) × (k.brackets ≡ [])

finish_nested : (n : Nest) (s : State) → Tied n s n → IfSome (finish s) (IsNestedFrom n)
unfolding finish
finish_nested n s t = by_last (innermost s.brackets) refl
  where
    by_last : (o : Option Bracket) → innermost s.brackets ≡ o
        → IfSome (elim o [ None ↦ Some [] | Some b ↦ None ]) (IsNestedFrom n)
    by_last None is = (n, refl, t.brackets ∙ last_none s.brackets is)
    by_last (Some b) is = tt

-- before the next turn
before_turn : (m n : Nest) (s : State) → Tied m s n → Tied n (without_events s) n
before_turn m n s t = record {
  nested = refl;
  brackets = t.brackets;
  due = t.due;
  blocks = t.blocks;
  start = t.start;
}

events_nested : (turns : ℕ) (n : Nest) (s : State) (text : List ℕ) → Tied n s n
    → IfSome (events_from turns s text) (IsNestedFrom n)
unfolding events_from
events_nested zero n s text t = tt
events_nested (suc turns) n s [] t = finish_nested n s t
events_nested (suc turns) n s (b ∷ rest) t = go_on (turn s (b ∷ rest)) (turn_tied n s (b ∷ rest) (n, t))
    (λ k u more tied. events_nested turns k u more tied)
  where
    go_on : (o : Option (State × List ℕ)) → IfSome o (IsTiedTurn n)
        → ((k : Nest) (u : State) (more : List ℕ) → Tied k u k
        → IfSome (events_from turns u more) (IsNestedFrom k))
        → IfSome (elim o [
          | None ↦ None
          | Some next ↦ option_map (λ later. next.0.events ++ later)
              (events_from turns (without_events next.0) next.1)
        ]) (IsNestedFrom n)
    go_on None tied later = tt
    go_on (Some (u, more)) (k, tied) later =
        map_some (IsNestedFrom k) (IsNestedFrom n) (events_from turns (without_events u) more) _
        (later k (without_events u) more (before_turn n k u tied))
        (λ es (last, is, closed). (last, appended u.events es n k tied.nested ∙ is, closed))

initial_tied : (size line : ℕ) → Tied no_nest (initial size line) no_nest
initial_tied size line = record {
  nested = refl;
  brackets = refl;
  due = λ _. refl;
  blocks = λ _. refl;
  start = λ _. refl;
}

events_at_nested : (size : ℕ) (first : ℕ × List ℕ) → IfSome (events_at size first) IsNested
events_at_nested size (line, text) = events_nested (size + 1) no_nest (initial size line) text
    (initial_tied size line)

read_nested : (text : List ℕ) → IfSome (read text) IsNested
unfolding read events_of
read_nested text = if_some IsNested (is_text text) _ None
    (λ _. events_at_nested (length text) (after_directive (after_lines true false (length text) text))) (λ _. tt)

pub nested : (text : List ℕ) (events : List Event) → read text ≡ Some events → IsNested events
nested text events is = of_some (read text) (read_nested text) is
  where
    of_some : (o : Option (List Event)) → IfSome o IsNested → o ≡ Some events → IsNested events
    of_some None has is = cc
    of_some (Some es) has is = let same : es ≡ events = cc in subst IsNested same has
