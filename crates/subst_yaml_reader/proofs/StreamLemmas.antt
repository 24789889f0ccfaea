-- The events to come, before and after a turn and an event.
use Rattle.std.proofs.Common.{◌≡◌, ℕ, ◌+◌, ◌<◌, ◌≤◌, ◌==◌, true, false, List, [], ◌∷◌, ◌++◌, append_assoc, ◌≢◌, ◌↔◌, drop, drop-cons, get_or, length, Option, Some, None, add-one, ap, arith, option_map, refl, sym, ◌∙◌}
use Rattle.std.proofs.lemmas.Grind.{common_steps}
use Rattle.subst_yaml_reader.specs.Reading.{events_from, finish, turn}
use Rattle.subst_yaml_reader.specs.State.{State, innermost, without_events}
use Rattle.subst_yaml_reader.specs.declared.event.Bracket.{Bracket}
use Rattle.subst_yaml_reader.specs.declared.event.Event.{Event}
use Rattle.subst_yaml_reader.specs.declared.event.Event.TheVariants.{Document}
use Rattle.subst_yaml_reader.specs.Refusal.{IsInside, IsRefused}
use Rattle.subst_yaml_reader.specs.declared.error.Error.{Error}
use Rattle.subst_yaml_reader.specs.declared.error.Error.TheVariants.{Refused, OutOfMemory as MemoryError}
use Rattle.subst_yaml_reader.specs.declared.error.Halt.{Halt}
use Rattle.subst_yaml_reader.specs.declared.error.Halt.TheVariants.{OutOfMemory}
use Rattle.subst_yaml_reader.proofs.TurnLemmas.{no_turns, text_ends, turn_goes_on, turn_stops}

pub after_nothing : (o : Option (List Event)) → option_map (λ (es : List Event). [] ++ es) o ≡ o
after_nothing None = refl
after_nothing (Some es) = refl

-- the error for a halt, if the text is refused
pub halted : (error : Error) (halt : Halt) (text : List ℕ) (o : Option (List Event))
    → (error ≡ MemoryError ↔ halt ≡ OutOfMemory) → IsInside error text → (halt ≢ OutOfMemory → o ≡ None)
    → IsRefused error text o
halted (Refused fault) halt text o is inside none =
    (none (λ memory. let no : Refused fault ≡ MemoryError = is.1 memory in cc), inside)
halted MemoryError halt text o is inside none = tt

-- some events, and then one more
pub one_more : (gone : List Event) (e : Event) (o : Option (List Event))
    → option_map (λ (later : List Event). gone ++ later) (option_map (λ (later : List Event). e ∷ later) o)
    ≡ option_map (λ (later : List Event). (gone ++ e ∷ []) ++ later) o
one_more gone e None = refl
one_more gone e (Some es) = ap Some (sym (append_assoc gone (e ∷ []) es))

pub passed : (gone : List Event) (e : Event) (all before after : Option (List Event))
    → all ≡ option_map (λ (later : List Event). gone ++ later) before
    → before ≡ option_map (λ (later : List Event). e ∷ later) after
    → (more : List Event) × (all ≡ option_map (λ (later : List Event). more ++ later) after)
passed gone e all before after is next = (gone ++ e ∷ [], is ∙ rw next (one_more gone e after))

-- all events of the last turn were returned
pub all_given : (given : ℕ) (events : List Event) (o : Option (List Event)) → length events ≤ given
    → option_map (λ later. drop given events ++ later) o ≡ o
all_given given events o all =
    let cut : drop given events ≡ [] = grind (arith, common_steps) in rw cut (after_nothing o)

-- no turn is left
pub no_turn : (given : ℕ) (events : List Event) (s : State) (text : List ℕ)
    → option_map (λ later. drop given events ++ later) (events_from 0 s text) ≡ None
no_turn given events s text = rw (no_turns s text) refl

-- A token is read or refused, or the text ends outside brackets or inside.
module _ (turns given : ℕ) (events : List Event) (s : State) (text : List ℕ) (all : length events ≤ given) where
  pub token_read : (u : State) (next : List ℕ) → (length text == 0) ≡ false → turn s text ≡ Some (u, next)
      → option_map (λ later. drop given events ++ later) (events_from (turns + 1) s text)
      ≡ option_map (λ later. drop 0 u.events ++ later) (events_from turns (without_events u) next)
  token_read u next some goes = all_given given events (events_from (turns + 1) s text) all
      ∙ turn_goes_on turns s u text next some goes

  pub token_not_read : (length text == 0) ≡ false → turn s text ≡ None
      → option_map (λ later. drop given events ++ later) (events_from (turns + 1) s text) ≡ None
  token_not_read some stops = all_given given events (events_from (turns + 1) s text) all
      ∙ turn_stops turns s text some stops

  pub end_outside : (length text == 0) ≡ true → innermost s.brackets ≡ None
      → option_map (λ later. drop given events ++ later) (events_from (turns + 1) s text) ≡ Some []
  unfolding finish
  end_outside ends outside = all_given given events (events_from (turns + 1) s text) all
      ∙ text_ends turns s text ends ∙ rw (outside, finish) refl

  pub end_inside : (b : Bracket) → (length text == 0) ≡ true → innermost s.brackets ≡ Some b
      → option_map (λ later. drop given events ++ later) (events_from (turns + 1) s text) ≡ None
  unfolding finish
  end_inside b ends inside = all_given given events (events_from (turns + 1) s text) all
      ∙ text_ends turns s text ends ∙ rw (inside, finish) refl
