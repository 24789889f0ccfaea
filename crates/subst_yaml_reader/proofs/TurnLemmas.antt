-- Loops that count their turns: at turn i of n, n - i turns are left.
use Rattle.std.proofs.Common.{◌≡◌, ℕ, suc, ◌+◌, ◌-◌, ◌<◌, List, ◌∷◌, ◌++◌, [], Option, Some, None, true, false, ◌==◌, refl, arith, length, add-one, option_map}
use borrow.Author.Tests.{eqb-true}
use Rattle.subst_yaml_reader.specs.Reading.{events_from, finish, turn}
use Rattle.subst_yaml_reader.specs.Runs.{after_blanks, after_plain, after_plain_lines, next_line}
use Rattle.subst_yaml_reader.specs.State.{State, without_events}

turns_left : (n i : ℕ) → i < n → n - i ≡ suc (n - (i + 1))
turns_left n i below = omega arith

-- Unquoted text ends, or a line continues it.
pub plain_ends : (n i : ℕ) (outer : Option ℕ) (text : List ℕ) → i < n → next_line outer (after_blanks text) ≡ None
    → after_plain_lines (n - i) outer text ≡ text
unfolding after_plain_lines
plain_ends n i outer text below ends = rw (turns_left n i below) (rw (ends, after_plain_lines) refl)

pub plain_goes_on : (n i : ℕ) (outer : Option ℕ) (text line : List ℕ) → i < n
    → next_line outer (after_blanks text) ≡ Some line
    → after_plain_lines (n - i) outer text ≡ after_plain_lines (n - (i + 1)) outer (after_plain false line line)
unfolding after_plain_lines
plain_goes_on n i outer text line below goes = rw (turns_left n i below) (rw (goes, after_plain_lines) refl)

-- No turn is left, the text ends, a token is refused, or it is read.
pub no_turns : (s : State) (text : List ℕ) → events_from 0 s text ≡ None
unfolding events_from
no_turns s text = refl

pub text_ends : (turns : ℕ) (s : State) (text : List ℕ) → (length text == 0) ≡ true
    → events_from (turns + 1) s text ≡ finish s
unfolding events_from
text_ends turns s [] ends = rw (add-one turns) refl
text_ends turns s (b ∷ rest) ends = absurd (omega (arith, eqb-true (length (b ∷ rest)) 0 ends))

pub turn_stops : (turns : ℕ) (s : State) (text : List ℕ) → (length text == 0) ≡ false → turn s text ≡ None
    → events_from (turns + 1) s text ≡ None
unfolding events_from
turn_stops turns s [] some stops = cc
turn_stops turns s (b ∷ rest) some stops = rw (add-one turns) (rw (stops, events_from) refl)

pub turn_goes_on : (turns : ℕ) (s t : State) (text next : List ℕ) → (length text == 0) ≡ false
    → turn s text ≡ Some (t, next) → events_from (turns + 1) s text
    ≡ option_map (λ later. t.events ++ later) (events_from turns (without_events t) next)
unfolding events_from
turn_goes_on turns s t [] next some goes = cc
turn_goes_on turns s t (b ∷ rest) next some goes = rw (add-one turns) (rw (goes, events_from) refl)
