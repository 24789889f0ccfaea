-- The nesting of events: the collections that are open after some events, and the events that may follow.
use Rattle.std.specs.Prelude.{◌≡◌, ℕ, ◌==◌, ◌+◌, ◌-◌, ◌&&◌, ◌||◌, Bool, false, true, not, List, [], ◌∷◌, ◌++◌, take, length, if◌then◌else◌, Option, Some, None, nat_lt}
use Rattle.subst_yaml_reader.specs.Block.{is_sequence}
use Rattle.subst_yaml_reader.specs.Flow.{is_of}
use Rattle.subst_yaml_reader.specs.State.{innermost}
use Rattle.subst_yaml_reader.specs.declared.event.Bracket.{Bracket}
use Rattle.subst_yaml_reader.specs.declared.event.Bracket.TheVariants as bracket
use Rattle.subst_yaml_reader.specs.declared.event.Event.{Event}
use Rattle.subst_yaml_reader.specs.declared.event.Event.TheVariants.{Document, Item, Key, Value, Open, FlowKey, Null, Close}
use Rattle.subst_yaml_reader.specs.declared.reader.Kind.{Kind}
use Rattle.subst_yaml_reader.specs.declared.reader.Kind.TheVariants.{Sequence, Mapping}

-- The open collections, the innermost last: those without brackets, and those in brackets. `is_due` is
-- whether a value is due outside brackets.
pub record Nest : Type 0 where
  pub blocks : List Kind
  pub brackets : List Bracket
  pub is_due : Bool

-- no collection is open, and no value is due
abbrev pub no_nest : Nest
no_nest = record { blocks = []; brackets = []; is_due = false }

abbrev pub has_none : List Bracket → Bool
has_none [] = true
has_none (b ∷ rest) = false

abbrev pub is_kind : Kind → Option Kind → Bool
is_kind kind None = false
is_kind Sequence (Some other) = is_sequence other
is_kind Mapping (Some other) = not (is_sequence other)

-- the collection at `depth` is open and of this kind, so that an entry at this depth continues it
abbrev pub goes_on : Kind → (depth : ℕ) → List Kind → Bool
goes_on kind depth blocks = not (nat_lt (length blocks) depth) && is_kind kind (innermost (take depth blocks))

-- The open collections after an entry outside brackets, or `None` if the entry can't come next. The entry
-- continues the open collection of this kind at `depth`, or begins a new one. It begins a new one only if a
-- value is due, and if `depth` is the number of open collections plus 1.
abbrev pub entered : Kind → (depth : ℕ) → Nest → Option Nest
entered kind depth n =
    if not (has_none n.brackets) then None
    else if goes_on kind depth n.blocks
    then Some (record { blocks = take depth n.blocks; brackets = []; is_due = true })
    else if n.is_due && depth == length n.blocks + 1
    then Some (record { blocks = n.blocks ++ kind ∷ []; brackets = []; is_due = true })
    else None

-- the open collections after a value, or `None` if the value can't come next. A value in brackets (`in_flow`)
-- needs an open bracket; any other value has to be due, with all brackets closed
abbrev pub valued : (in_flow : Bool) → Nest → Option Nest
valued true n = if has_none n.brackets then None else Some n
valued false n = if has_none n.brackets && n.is_due then Some (record n { is_due = false }) else None

-- the open collections after an event, or `None` if the event can't come next
abbrev pub after_event : Event → Nest → Option Nest
after_event Document n =
    if has_none n.brackets then Some (record { blocks = []; brackets = []; is_due = true }) else None
after_event (Item depth) n = entered Sequence depth n
after_event (Key depth style span) n = entered Mapping depth n
after_event (Value style span in_flow indent) n = valued in_flow n
after_event (Open b) n = if has_none n.brackets && not n.is_due then None
    else Some (record n { brackets = n.brackets ++ b ∷ []; is_due = false })
after_event (FlowKey style span) n =
    if is_of bracket.Mapping (innermost n.brackets) || is_of bracket.Pair (innermost n.brackets)
    then Some n else None
after_event Null n = if has_none n.brackets then None else Some n
after_event Close n = if has_none n.brackets then None
    else Some (record n { brackets = take (length n.brackets - 1) n.brackets })

abbrev pub after_events : List Event → Nest → Option Nest
after_events [] n = Some n
after_events (e ∷ rest) n = elim (after_event e n) [ None ↦ None | Some m ↦ after_events rest m ]

-- Each event may follow those before it, and all brackets are closed.
abbrev pub IsNested : List Event → Type 0
IsNested events = (n : Nest) × (after_events events no_nest ≡ Some n) × (n.brackets ≡ [])
