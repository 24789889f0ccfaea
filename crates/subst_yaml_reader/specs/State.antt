-- The state of the reader between two tokens.
use Rattle.std.specs.Prelude.{ℕ, ◌-◌, Bool, true, List, [], ◌∷◌, ◌++◌, take, length, Option, option_map, slice_get}
use Rattle.subst_yaml_reader.specs.Scalar.{no_properties}
use Rattle.subst_yaml_reader.specs.declared.event.Bracket.{Bracket}
use Rattle.subst_yaml_reader.specs.declared.event.Event.{Event}
use Rattle.subst_yaml_reader.specs.declared.event.Event.TheVariants as event
use Rattle.subst_yaml_reader.specs.declared.event.Span.{Span}
use Rattle.subst_yaml_reader.specs.declared.reader.Collection.{Collection}
use Rattle.subst_yaml_reader.specs.declared.reader.Kind.{Kind}
use Rattle.subst_yaml_reader.specs.declared.reader.Next.{Next}
use Rattle.subst_yaml_reader.specs.declared.reader.Next.TheVariants.{Start}
use Rattle.subst_yaml_reader.specs.declared.scalar.Properties.{Properties}

pub record State : Type 0 where
  -- the length of the whole text
  pub size : ℕ
  -- the number of bytes from the start of the next token's line to the end of the whole text
  pub line : ℕ
  -- the next token is the first on its line, or the first after `- `; a collection can begin at such a token
  pub fresh : Bool
  -- the tokens that are expected next
  pub next : Next
  -- whether an earlier turn read an anchor for the next value, and whether an earlier turn read a tag for it
  pub pending : Properties
  -- the open collections without brackets, the innermost last
  pub blocks : List Collection
  -- the open collections in brackets, the innermost last
  pub brackets : List Bracket
  -- the events of the last turn
  pub events : List Event

-- the state before the first token of a text of `size` bytes. `line` is the number of bytes from the start of
-- that token's line to the end of the text
abbrev pub initial : (size line : ℕ) → State
initial size line = record {
  size = size;
  line = line;
  fresh = true;
  next = Start;
  pending = no_properties;
  blocks = [];
  brackets = [];
  events = [];
}

-- the state without the events of the last turn
abbrev pub without_events : State → State
without_events s = record s { events = [] }

abbrev pub emit : Event → State → State
emit e s = record s { events = s.events ++ e ∷ [] }

-- the state with the position of the next token replaced by `fresh` and `line`
abbrev pub placed : (fresh : Bool) → (line : ℕ) → State → State
placed fresh line s = record s { fresh = fresh; line = line }

-- the state in which `next` is expected, and no anchor or tag is pending
abbrev pub with_next : Next → State → State
with_next next s = record s { next = next; pending = no_properties }

abbrev pub push_block : Kind → (column : ℕ) → State → State
push_block kind column s = record s { blocks = s.blocks ++ record { kind = kind; column = column } ∷ [] }

abbrev pub opened : Bracket → State → State
opened bracket s = record s { brackets = s.brackets ++ bracket ∷ []; events = s.events ++ event.Open bracket ∷ [] }

abbrev pub closed : State → State
closed s = record s { brackets = take (length s.brackets - 1) s.brackets; events = s.events ++ event.Close ∷ [] }

-- the last element, if there is one
abbrev pub innermost : {A : Type 0} → List A → Option A
innermost xs = slice_get xs (length xs - 1)

-- the column of the innermost collection without brackets, if one is open
abbrev pub outer_column : State → Option ℕ
outer_column s = option_map (λ block. block.column) (innermost s.blocks)

-- the column, from 0, of the token at the start of the text
abbrev pub column_of : State → List ℕ → ℕ
column_of s text = s.line - length text

-- the span from the start of `text` to the start of `rest`, which is a later part of `text`
abbrev pub span_of : State → (text rest : List ℕ) → Span
span_of s text rest = record { start = s.size - length text; «end» = s.size - length rest }
