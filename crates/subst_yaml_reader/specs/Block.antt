-- Collections without brackets, their entries and values, and the marks of documents.
use Rattle.std.specs.Prelude.{ℕ, ◌==◌, ◌+◌, ◌-◌, ◌^◌, ◌&&◌, ◌||◌, Bool, false, true, not, List, [], ◌∷◌, take, length, max, min, if◌then◌else◌, Option, Some, None, nat_lt, position}
use Rattle.subst_yaml_reader.specs.Bytes.{begins, is_document_mark, is_line_over, is_mark, tab, hyphen, colon, greater_than, opening_square, opening_curly, vertical_bar}
use Rattle.subst_yaml_reader.specs.Runs.{after_blanks, after_block, after_line_ends, after_lines, after_plain_lines, after_spaces, is_past}
use Rattle.subst_yaml_reader.specs.Scalar.{after_byte, after_gap, colon_follows, first_of, fits_key, header, is_plain, joined, node_properties, scalar, Spot, ◌>>=◌}
use Rattle.subst_yaml_reader.specs.State.{State, column_of, emit, innermost, opened, outer_column, placed, push_block, span_of, with_next}
use Rattle.subst_yaml_reader.specs.declared.block.Role.{Role}
use Rattle.subst_yaml_reader.specs.declared.block.Role.TheVariants.{Open, Entry, Inline}
use Rattle.subst_yaml_reader.specs.declared.event.Bracket.{Bracket}
use Rattle.subst_yaml_reader.specs.declared.event.Bracket.TheVariants as bracket
use Rattle.subst_yaml_reader.specs.declared.event.Event.TheVariants.{Document, Item, Key, Value}
use Rattle.subst_yaml_reader.specs.declared.event.Span.{Span}
use Rattle.subst_yaml_reader.specs.declared.event.Style.{Style}
use Rattle.subst_yaml_reader.specs.declared.event.Style.TheVariants as style
use Rattle.subst_yaml_reader.specs.declared.reader.Collection.{Collection}
use Rattle.subst_yaml_reader.specs.declared.reader.Kind.{Kind}
use Rattle.subst_yaml_reader.specs.declared.reader.Kind.TheVariants.{Sequence, Mapping}
use Rattle.subst_yaml_reader.specs.declared.reader.Next.{Next}
use Rattle.subst_yaml_reader.specs.declared.reader.Next.TheVariants as next
use Rattle.subst_yaml_reader.specs.declared.scalar.Properties.{Properties}

-- the result of a turn, which reads one token: the state after the turn, and the text from the next token on,
-- or `None` if the text is refused
abbrev pub Turn : Type 0
Turn = Option (State × List ℕ)

-- the result of a turn that ends in the state s, with the next token at this position
abbrev pub moved : Spot → State → Turn
moved spot s = Some (placed spot.0 spot.1 s, spot.2)

-- the result of a turn that ends in the state s; the next token is after the blanks, comments and line ends
-- at the start of `rest`
abbrev pub after_token : List ℕ → State → Turn
after_token rest s = moved (after_gap s.line rest) s

-- the result of a turn that ends in the state s; the next token is after the spaces, comments and empty lines
-- at the start of `rest`, which begins a line
abbrev pub after_line : List ℕ → State → Turn
after_line rest s = moved (first_of (after_lines true false (length rest) rest)) s

abbrev pub has_any : Properties → Bool
has_any p = p.anchor || p.tag

abbrev pub is_alias : Style → Bool
is_alias style.Alias = true
is_alias _ = false

abbrev pub is_entry : Role → Bool
is_entry Entry = true
is_entry _ = false

-- The state after a value from `text` to `rest`. It is `None` for two anchors, for two tags, and for an
-- anchor or a tag of an alias. `indent` is the number of spaces before each line of a block scalar.
unfoldable pub value : (in_flow : Bool) → Properties → Style → (indent : ℕ) → State → (text rest : List ℕ)
    → Option State
value in_flow properties style indent s text rest = do
  both ← joined s.pending properties
  if is_alias style && has_any both then None
      else Some (with_next next.Done (emit (Value style (span_of s text rest) in_flow indent) s))

-- the kind of collection that the bracket b opens: a sequence for `[`, and otherwise a mapping
abbrev pub bracket_of : ℕ → Bracket
bracket_of b = if b == opening_square then bracket.Sequence else bracket.Mapping

-- a turn at the opening bracket b of a collection; `rest` is the text after the bracket
unfoldable pub open_bracket : Properties → ℕ → State → (rest : List ℕ) → Turn
open_bracket properties b s rest = do
  both ← joined s.pending properties
  after_token rest (with_next next.Member (opened (bracket_of b) s))

-- The column of the lines of a block scalar in a collection at `column`. If the header's `digit` isn't 0, the
-- lines are at `column` + `digit`. Otherwise they are at `spaces`, but at least at `column` + 1. `spaces` is
-- the number of spaces at the start of the first line that isn't empty. A sum above 2^64 - 1 is replaced by
-- 2^64 - 1.
abbrev pub block_indent : (column digit spaces : ℕ) → ℕ
block_indent column digit spaces =
    if nat_lt 0 digit then min (column + digit) (2 ^ 64 - 1) else max (min (column + 1) (2 ^ 64 - 1)) spaces

-- the number of spaces at the start of a text
abbrev pub spaces_of : List ℕ → ℕ
spaces_of text = length text - length (after_spaces text)

-- Whether a block scalar is refused because the column of its lines is unclear. `first` is the text after the
-- header's line, without the empty lines at its start. The column is unclear if the first line of `first`
-- consists of one or more spaces. It is also unclear if the header's `digit` is 0 and the first byte of
-- `first` that isn't a space is a tab.
abbrev pub is_unclear : (digit : ℕ) → List ℕ → Bool
is_unclear digit first = (nat_lt 0 (spaces_of first) && is_line_over (after_spaces first))
    || (digit == 0 && begins tab (after_spaces first))

-- The text after the lines of a block scalar, which are at the column `indent`. `head` is the text from the
-- header's line end on, and `first` is `head` without the line ends at its start. Empty lines at the end
-- belong to the scalar if `keep`.
abbrev pub block_end : (indent : ℕ) → (keep : Bool) → (head first : List ℕ) → List ℕ
block_end indent keep head first = after_block indent keep false 0 (if keep then first else head) first

abbrev pub lines_from : (column digit : ℕ) → (keep : Bool) → (head first : List ℕ) → Option (ℕ × List ℕ)
lines_from column digit keep head first = if is_unclear digit first then None else Some (
  block_indent column digit (spaces_of first),
  block_end (block_indent column digit (spaces_of first)) keep head first,
)

-- The column of a block scalar's lines, and the text after the lines, or `None` if the column is unclear. The
-- scalar is in a collection at `column`. The tuple is the header: its digit, or 0 if it has none; whether its
-- sign is `+`; and the text from the line end on.
unfoldable pub block_lines : (column : ℕ) → ℕ × Bool × List ℕ → Option (ℕ × List ℕ)
block_lines column (digit, keep, head) = lines_from column digit keep head (after_line_ends head)

-- the style of a block scalar whose first byte b is `|` or `>`
abbrev pub block_style : ℕ → Style
block_style b = if b == vertical_bar then style.Literal else style.Folded

-- A turn at the block scalar at the start of `text`, where `text` is the byte b followed by `rest`. A whole
-- document can't be a block scalar.
unfoldable pub block_scalar : Properties → ℕ → State → (rest text : List ℕ) → Turn
block_scalar properties b s rest text = do
  column ← outer_column s
  found ← header rest
  lines ← block_lines column found
  done ← value false properties (block_style b) lines.0 s text lines.1
  after_line lines.1 done

-- the state after a key of this style and span, whose value is expected
abbrev pub keyed_block : Style → Span → State → State
keyed_block style span s = with_next next.Value (emit (Key (length s.blocks) style span) s)

-- the state in which a key of this role is read, or `None` if a node of this role can't be a key; in the role
-- `Open`, the key begins a mapping
abbrev pub opened_for : Role → State → Option State
opened_for (Open column) s = Some (push_block Mapping column s)
opened_for Entry s = Some s
opened_for Inline s = None

-- a turn at a key and its colon; the key is from `text` to `rest`
unfoldable pub key : Role → Style → State → (text rest : List ℕ) → Turn
key role style s text rest = do
  t ← opened_for role s
  after_token (after_byte colon (after_blanks rest)) (keyed_block style (span_of t text rest) t)

-- The text after a value. `rest` begins after the value, or after the first line of an unquoted one. The
-- other lines of an unquoted value are past the column of the innermost collection.
abbrev pub value_end : State → Style → (rest : List ℕ) → List ℕ
value_end s style rest = if is_plain style then after_plain_lines (length rest + 1) (outer_column s) rest else rest

-- A turn at a scalar or an alias, from `at` to `rest`: at a key if a colon follows, and otherwise at a value.
-- If the value is unquoted, `rest` is the text after its first line. The node's anchor and tag are from
-- `text` to `at`.
abbrev pub keyed_or_value : Role → Properties → State → (text at : List ℕ) → Style × List ℕ → Turn
keyed_or_value role properties s text at (style, rest) =
    if colon_follows false style (after_blanks rest)
    then (if not (fits_key text (after_blanks rest)) || (is_alias style && has_any properties) then None
    else key role style s at rest)
    else if is_entry role then None
    else value false properties style 0 s at (value_end s style rest) >>= after_token (value_end s style rest)

unfoldable pub scalar_node : Role → Properties → State → (text at : List ℕ) → Turn
scalar_node role properties s text at = do
  found ← scalar false at
  keyed_or_value role properties s text at found

-- A turn at the content of a node, from `at` on. The node's anchor and tag are from `text` to `at`. A node of
-- the role `Entry` can't be a collection or a block scalar.
unfoldable pub content : Role → Properties → State → (text at : List ℕ) → Turn
content role properties s text [] = None
content role properties s text (b ∷ rest) =
    if b == opening_square || b == opening_curly
    then (if is_entry role then None else open_bracket properties b s rest)
    else if b == vertical_bar || b == greater_than
    then (if is_entry role then None else block_scalar properties b s rest (b ∷ rest))
    else scalar_node role properties s text (b ∷ rest)

-- A turn at an anchor, a tag or both, with no content after them on their line. They belong to the next
-- value.
abbrev pub properties_alone : Role → Properties → Spot → State → Turn
properties_alone role properties spot s = if is_entry role then None else do
  both ← joined s.pending properties
  moved spot (record s { pending = both })

unfoldable pub node : Role → State → List ℕ → Turn
node role s text = do
  found ← node_properties false s.line text
  if found.1.0 then properties_alone role found.0 found.1 s else content role found.0 s text found.1.2

-- a turn at the `-` of an item, after which a collection may begin on the same line
unfoldable pub item : State → List ℕ → Turn
item s text = moved (first_of (after_lines true false s.line (after_byte hyphen text)))
    (with_next next.Value (emit (Item (length s.blocks)) s))

abbrev pub is_sequence : Kind → Bool
is_sequence Sequence = true
is_sequence Mapping = false

abbrev pub is_sequence_at : (column : ℕ) → Option Collection → Bool
is_sequence_at column None = false
is_sequence_at column (Some block) = is_sequence block.kind && block.column == column

abbrev pub is_mapping_at : (column : ℕ) → Option Collection → Bool
is_mapping_at column None = false
is_mapping_at column (Some block) = not (is_sequence block.kind) && block.column == column

-- a turn at an entry of the innermost collection, or `None` if that collection is at another column or of
-- another kind; `is_item` is whether the entry begins with `- `
unfoldable pub entry : (column : ℕ) → (is_item : Bool) → State → List ℕ → Turn
entry column is_item s text =
    if is_item && is_sequence_at column (innermost s.blocks) then item s text
    else if not is_item && is_mapping_at column (innermost s.blocks) then node Entry s text
    else None

-- the index of the first collection whose entries are past a column
abbrev pub first_deeper : (column : ℕ) → List Collection → Option ℕ
first_deeper column blocks = position (λ block. nat_lt column block.column) blocks

-- the first n collections, or all of them for `None`
abbrev pub taken : List Collection → Option ℕ → List Collection
taken blocks None = blocks
taken blocks (Some n) = take n blocks

-- the collections without those whose entries are past `column`
abbrev pub without_deeper : (column : ℕ) → List Collection → List Collection
without_deeper column blocks = taken blocks (first_deeper column blocks)

-- the collections, where the innermost one is left out if it is a sequence at `column` and `is_item` is false
abbrev pub without_sequence : (column : ℕ) → (is_item : Bool) → List Collection → List Collection
without_sequence column is_item blocks =
    if not is_item && is_sequence_at column (innermost blocks) then take (length blocks - 1) blocks else blocks

-- the state with only the collections that an entry at `column` leaves open
unfoldable pub shallower : (column : ℕ) → (is_item : Bool) → State → State
shallower column is_item s = record s { blocks = without_sequence column is_item (without_deeper column s.blocks) }

abbrev pub is_value : Next → Bool
is_value next.Value = true
is_value _ = false

-- A value may begin at `column`: a value is expected, and `column` is past the column of the innermost
-- collection, if there is one. The two columns may also be equal if that collection is a mapping and the
-- value begins with `- ` (`is_item`).
abbrev pub may_open : (column : ℕ) → (is_item : Bool) → State → Bool
may_open column is_item s = is_value s.next
    && (is_past (outer_column s) column || (is_item && is_mapping_at column (innermost s.blocks)))

-- a turn at a token in the column `column`: the token begins a value if `may_open` allows one there, and
-- otherwise an entry of an open collection
unfoldable pub line_turn : (column : ℕ) → State → List ℕ → Turn
line_turn column s text =
    if not (may_open column (is_mark hyphen text) s)
    then entry column (is_mark hyphen text) (shallower column (is_mark hyphen text) s) text
    else if is_mark hyphen text then item (push_block Sequence column s) text
    else node (Open column) s text

-- a turn at a token, as in `line_turn`; if no document has begun yet, the first one begins at this token
unfoldable pub fresh_turn : (column : ℕ) → State → List ℕ → Turn
fresh_turn column s text = elim s.next [
  | next.Start ↦ line_turn column (with_next next.Value (emit Document s)) text
  | next.Value ↦ line_turn column s text
  | next.Done ↦ line_turn column s text
  | next.Ended ↦ None
  | next.Member ↦ None
]

-- the text after `---` or `...`
abbrev pub after_mark : List ℕ → List ℕ
after_mark (first ∷ (second ∷ (third ∷ rest))) = rest
after_mark text = text

abbrev pub is_start : Next → Bool
is_start next.Start = true
is_start _ = false

abbrev pub without_blocks : State → State
without_blocks s = record s { blocks = [] }

-- a turn at a document mark: `---` begins a document, and `...` ends one
unfoldable pub document : State → List ℕ → Turn
document s text =
    if begins hyphen text
    then after_token (after_mark text) (without_blocks (with_next next.Value (emit Document s)))
    else if is_start s.next then None
    else after_token (after_mark text) (without_blocks (with_next next.Ended s))

-- a turn outside brackets
unfoldable pub block_turn : State → List ℕ → Turn
block_turn s text =
    if not s.fresh then (if is_value s.next then node Inline s text else None)
    else if column_of s text == 0 && is_document_mark text then document s text
    else fresh_turn (column_of s text) s text
