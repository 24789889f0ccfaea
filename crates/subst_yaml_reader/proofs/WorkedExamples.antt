-- Worked examples of the definitions, for written-out texts. The code isn't named here.
use Rattle.std.proofs.Common.{◌≡◌, ℕ, ◌+◌, [], ◌∷◌, Some, None, true, false, refl}
use Rattle.std.specs.Prelude.{codes}
use Rattle.subst_yaml_reader.specs.Block.{block_lines, block_scalar, block_turn, content, document, entry, fresh_turn, item, key, line_turn, node, open_bracket, scalar_node, shallower, value}
use Rattle.subst_yaml_reader.specs.Decoded.{double, lines_of, literal_value, single, value_of}
use Rattle.subst_yaml_reader.specs.Flow.{close, closing, ended, finished, flow_content, flow_key, flow_scalar, flow_turn, lone_key, member, next_entry}
use Rattle.subst_yaml_reader.specs.Nesting.{after_events, no_nest}
use Rattle.subst_yaml_reader.specs.Reading.{after_directive, events_from, events_of, finish, read, turn}
use Rattle.subst_yaml_reader.specs.Runs.{after_blanks, after_block, after_double, after_line_ends, after_lines, after_name, after_plain, after_plain_lines, after_single, after_spaces, is_text, to_line_end}
use Rattle.subst_yaml_reader.specs.Scalar.{after_gap, fits_key, header, line_end_of, name_end, node_properties, one_property, property, scalar, second_property}
use Rattle.subst_yaml_reader.specs.Values.{folded, folded_lines}
use Rattle.subst_yaml_reader.specs.declared.event.Bracket.TheVariants as bracket
use Rattle.subst_yaml_reader.specs.declared.event.Event.TheVariants.{Document, Item, Key, Value, Open, FlowKey, Null, Close}
use Rattle.subst_yaml_reader.specs.declared.event.Span.{Span}
use Rattle.subst_yaml_reader.specs.declared.event.Style.TheVariants.{Plain, Single, Double, Literal, Folded, Alias}

-- the span of `len` bytes from an offset on
abbrev at : (start len : ℕ) → Span
at start len = record { start = start; «end» = start + len }

-- a key, a value and a comment
abbrev Comment : Type 0
Comment = read (codes "a: b # c\n") ≡ Some (Document ∷ Key 1 Plain (at 0 1) ∷ Value Plain (at 3 1) false 0 ∷ [])

-- the items of a key at its own column, the last of which has no value, and the next key
abbrev Items : Type 0
Items = read (codes "a:\n- 'b'\n-\nc: d") ≡ Some (Document ∷ Key 1 Plain (at 0 1) ∷ Item 2
    ∷ Value Single (at 5 3) false 0 ∷ Item 2 ∷ Key 1 Plain (at 11 1) ∷ Value Plain (at 14 1) false 0 ∷ [])

-- a mapping on the line of its item; unquoted text over two lines
abbrev Nested : Type 0
Nested = read (codes "- a: b\n   c\n  d: e") ≡ Some (Document ∷ Item 1 ∷ Key 2 Plain (at 2 1)
    ∷ Value Plain (at 5 6) false 0 ∷ Key 2 Plain (at 14 1) ∷ Value Plain (at 17 1) false 0 ∷ [])

-- lines after `|`, the last of which is before an empty line
abbrev Lines : Type 0
Lines = read (codes "a: |\n  b\n   c\n\n") ≡ Some (Document ∷ Key 1 Plain (at 0 1)
    ∷ Value Literal (at 3 11) false 2 ∷ [])

-- brackets: a pair, a key without a value
abbrev Brackets : Type 0
Brackets = read (codes "[a: \"b\", {c}]") ≡ Some (Document ∷ Open bracket.Sequence ∷ Open bracket.Pair
    ∷ FlowKey Plain (at 1 1) ∷ Value Double (at 4 3) true 0 ∷ Close ∷ Open bracket.Mapping ∷ FlowKey Plain (at 10 1)
    ∷ Null ∷ Close ∷ Close ∷ [])

-- an anchor, a tag, an alias; two documents
abbrev Documents : Type 0
Documents = read (codes "--- &x !t a\n---\n*x") ≡ Some (Document ∷ Value Plain (at 10 1) false 0
    ∷ Document ∷ Value Alias (at 16 2) false 0 ∷ [])

-- a directive, which doesn't change the document after it
abbrev Directive : Type 0
Directive = read (codes "%YAML 1.1 # c\n---\na") ≡ Some (Document ∷ Value Plain (at 18 1) false 0 ∷ [])

-- a directive without a mark after it, and one of another version
abbrev NoDirective : Type 0
NoDirective = (read (codes "%YAML 1.1\na") ≡ None) × (read (codes "%YAML 1.3\n---\na") ≡ None)

-- a key where only a value can be
abbrev KeyAfterKey : Type 0
KeyAfterKey = read (codes "a: b: c") ≡ None

-- a tab in the indentation
abbrev Tab : Type 0
Tab = read (codes "a:\n\tb") ≡ None

-- a collection as a key, as in a template
abbrev Template : Type 0
Template = read (codes "a: {{ b }}") ≡ None

-- one line end is a space; of more, the first is left out, and so are the blanks around them
abbrev Words : Type 0
Words = value_of Plain 0 (codes "a \n\n  b\n c  d") ≡ Some (codes "a\nb c  d")

-- the blanks next to the quotes are kept
abbrev Quoted : Type 0
Quoted = value_of Single 0 (codes "' it''s \n so\n\n'") ≡ Some (codes " it's so\n")

-- an escaped line end isn't kept, but the blank before it is, and so is an escaped blank
abbrev Escaped : Type 0
Escaped = value_of Double 0 (codes "\"a \\\n  b\\ \n\n  c\"") ≡ Some (codes "a b \nc")

-- the line ends around a line that begins with a blank are kept
abbrev Paragraphs : Type 0
Paragraphs = value_of Folded 2 (codes ">\n\n  a\n  b\n\n  c\n   d\n  e\n")
    ≡ Some (codes "\na b\nc\n d\ne\n")

values : Words × Quoted × Escaped × Paragraphs
unfolding value_of folded folded_lines single double literal_value lines_of header line_end_of after_blanks
    to_line_end lib.Utf8.encode
values = (refl, refl, refl, refl)

-- Events that aren't a tree: an item two deeper, a second value, a bracket that closes none, a key in `[`,
-- and an item of a mapping.
abbrev NoTree : Type 0
NoTree = (after_events (Document ∷ Item 2 ∷ []) no_nest ≡ None)
    × (after_events (Document ∷ Value Plain (at 0 1) false 0 ∷ Value Plain (at 1 1) false 0 ∷ []) no_nest ≡ None)
    × (after_events (Document ∷ Close ∷ []) no_nest ≡ None)
    × (after_events (Document ∷ Open bracket.Sequence ∷ FlowKey Plain (at 1 1) ∷ []) no_nest ≡ None)
    × (after_events (Document ∷ Key 1 Plain (at 0 1) ∷ Value Plain (at 3 1) false 0 ∷ Item 1 ∷ []) no_nest ≡ None)

no_tree : NoTree
no_tree = (refl, refl, refl, refl, refl)

examples : Comment × Items × Nested × Lines × Brackets × Documents × Directive × NoDirective × KeyAfterKey × Tab
    × Template
unfolding after_directive block_lines block_scalar block_turn content document entry fresh_turn item key line_turn
    node open_bracket scalar_node shallower value close closing next_entry ended finished flow_content flow_key
    flow_scalar flow_turn lone_key member events_from events_of finish read turn after_blanks after_block
    after_double after_line_ends after_lines after_name after_plain after_plain_lines after_single after_spaces
    is_text to_line_end after_gap fits_key header line_end_of name_end node_properties one_property property
    scalar second_property
examples = (refl, refl, refl, refl, refl, refl, refl, (refl, refl), refl, refl, refl)
