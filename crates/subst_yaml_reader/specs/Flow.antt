-- Collections in brackets.
use Rattle.std.specs.Prelude.{ℕ, ◌==◌, ◌&&◌, ◌||◌, Bool, false, true, not, List, [], ◌∷◌, if◌then◌else◌, Option, Some, None, option_map}
use Rattle.subst_yaml_reader.specs.Block.{Turn, after_token, has_any, is_alias, moved, open_bracket, value}
use Rattle.subst_yaml_reader.specs.Bytes.{begins, is_document_mark, comma, colon, opening_square, closing_square, opening_curly, closing_curly}
use Rattle.subst_yaml_reader.specs.Runs.{after_blanks}
use Rattle.subst_yaml_reader.specs.Scalar.{after_byte, colon_follows, fits_key, joined, node_properties, scalar, ◌>>=◌}
use Rattle.subst_yaml_reader.specs.State.{State, closed, column_of, emit, innermost, opened, span_of, with_next}
use Rattle.subst_yaml_reader.specs.declared.event.Bracket.{Bracket}
use Rattle.subst_yaml_reader.specs.declared.event.Bracket.TheVariants.{Sequence, Mapping, Pair}
use Rattle.subst_yaml_reader.specs.declared.event.Event.TheVariants.{FlowKey, Null}
use Rattle.subst_yaml_reader.specs.declared.event.Span.{Span}
use Rattle.subst_yaml_reader.specs.declared.event.Style.{Style}
use Rattle.subst_yaml_reader.specs.declared.reader.Next.{Next}
use Rattle.subst_yaml_reader.specs.declared.reader.Next.TheVariants as next
use Rattle.subst_yaml_reader.specs.declared.scalar.Properties.{Properties}

abbrev pub is_same : Bracket → Bracket → Bool
is_same Sequence Sequence = true
is_same Mapping Mapping = true
is_same Pair Pair = true
is_same _ _ = false

abbrev pub is_of : Bracket → Option Bracket → Bool
is_of bracket None = false
is_of bracket (Some other) = is_same bracket other

-- the innermost collection in brackets is of this kind
abbrev pub is_in : Bracket → State → Bool
is_in bracket s = is_of bracket (innermost s.brackets)

abbrev pub is_member : Next → Bool
is_member next.Member = true
is_member _ = false

abbrev pub is_done : Next → Bool
is_done next.Done = true
is_done _ = false

-- a key of a mapping is expected
abbrev pub is_key_due : State → Bool
is_key_due s = is_member s.next && is_in Mapping s

-- A node in brackets may be a key, under three conditions. From `text` to `rest`, the node with its anchor
-- and tag has at most 1,024 bytes and no line feed. No anchor or tag is pending. If the node is an alias, it
-- has no anchor or tag.
abbrev pub is_flow_key : Properties → Style → State → (text rest : List ℕ) → Bool
is_flow_key properties style s text rest =
    fits_key text rest && not (has_any s.pending) && not (is_alias style && has_any properties)

abbrev pub keyed : Style → Span → State → State
keyed style span s = with_next next.Value (emit (FlowKey style span) s)

-- A turn at a key and the colon after it. `rest` is the text from the colon on. In a sequence, the key begins
-- a pair
unfoldable pub flow_key : Style → Span → State → (rest : List ℕ) → Turn
flow_key style span s rest = if not (is_member s.next) then None
    else after_token (after_byte colon rest) (keyed style span (if is_in Mapping s then s else opened Pair s))

-- A turn at a key without a colon in a mapping in brackets. The key's value is null. `rest` is the text after
-- the key
unfoldable pub lone_key : Style → Span → State → (rest : List ℕ) → Turn
lone_key style span s rest = after_token rest (with_next next.Done (emit Null (keyed style span s)))

-- A turn at a scalar or an alias, from `at` to `rest`. The node is a key if a colon follows or a key of a
-- mapping is expected; otherwise it is a value. The node's anchor and tag are from `text` to `at`.
unfoldable pub flow_scalar : Properties → Style → State → (text at rest : List ℕ) → Turn
flow_scalar properties style s text at rest =
    if colon_follows true style (after_blanks rest) || is_key_due s
    then (if not (is_flow_key properties style s text (after_blanks rest)) then None
    else if colon_follows true style (after_blanks rest)
    then flow_key style (span_of s at rest) s (after_blanks rest)
    else lone_key style (span_of s at rest) s rest)
    else value true properties style 0 s at rest >>= after_token rest

-- a turn at a scalar or an alias in brackets, from `at` on; the node's anchor and tag are from `text` to `at`
abbrev pub scalar_in_flow : Properties → State → (text at : List ℕ) → Turn
scalar_in_flow properties s text at = do
  found ← scalar true at
  flow_scalar properties found.0 s text at found.1

-- A turn at the content of a node in brackets, from `at` on: at a scalar, an alias, or a collection. A
-- collection can't be a key. The node's anchor and tag are from `text` to `at`.
unfoldable pub flow_content : Properties → State → (text at : List ℕ) → Turn
flow_content properties s text [] = scalar_in_flow properties s text []
flow_content properties s text (b ∷ rest) =
    if b == opening_square || b == opening_curly
    then (if is_key_due s then None else open_bracket properties b s rest)
    else scalar_in_flow properties s text (b ∷ rest)

-- an anchor or a tag in brackets has no content after it on the same line. The text after it is on another
-- line (`fresh`), or begins with `,`, `]` or `}`
abbrev pub is_node_over : (fresh : Bool) → List ℕ → Bool
is_node_over fresh text = fresh || begins comma text || begins closing_square text || begins closing_curly text

-- a turn at a member of a collection in brackets
unfoldable pub member : State → List ℕ → Turn
member s text = if is_done s.next then None else do
  found ← node_properties true s.line text
  if not (is_node_over found.1.0 found.1.2) then flow_content found.0 s text found.1.2 else do
    both ← joined s.pending found.0
    moved found.1 (record s { pending = both })

-- The state after an entry in brackets, or `None` if no entry can end here. A missing value becomes null:
-- after a key and its colon, or for an item that is only an anchor or a tag.
unfoldable pub finished : State → Option State
finished s = elim s.next [
  | next.Done ↦ Some s
  | next.Value ↦ Some (emit Null s)
  | next.Member ↦ if has_any s.pending && is_in Sequence s then Some (emit Null s) else None
  | next.Start ↦ None
  | next.Ended ↦ None
]

abbrev pub close_pair : State → State
close_pair s = if is_in Pair s then closed s else s

unfoldable pub ended : State → Option State
ended s = option_map close_pair (finished s)

-- a turn at a comma, which ends an entry; `rest` is the text after the comma
unfoldable pub next_entry : State → (rest : List ℕ) → Turn
next_entry s rest = do
  t ← ended s
  after_token rest (with_next next.Member t)

-- the state after the last entry before a closing bracket, or `None` if that entry can't end here. After the
-- opening bracket or a comma, the entry may be missing
unfoldable pub closing : State → Option State
closing s = if is_member s.next && not (has_any s.pending) then Some s else ended s

-- a turn at the closing bracket of a collection of this kind; `rest` is the text after the bracket
unfoldable pub close : Bracket → State → (rest : List ℕ) → Turn
close bracket s rest = do
  t ← closing s
  if is_in bracket t then after_token rest (with_next next.Done (closed t)) else None

-- a turn at a comma, at a closing bracket, or at a member of a collection in brackets
abbrev pub flow_token : State → List ℕ → Turn
flow_token s [] = member s []
flow_token s (b ∷ rest) =
    if b == comma then next_entry s rest
    else if b == closing_square then close Sequence s rest
    else if b == closing_curly then close Mapping s rest
    else member s (b ∷ rest)

unfoldable pub flow_turn : State → List ℕ → Turn
flow_turn s text =
    if s.fresh && column_of s text == 0 && is_document_mark text then None else flow_token s text
