-- Reading of a text of YAML. The result is a list of events, or `None` if the text is refused. A turn reads
-- one token.
use Rattle.std.specs.Prelude.{ℕ, zero, suc, ◌==◌, ◌+◌, ◌-◌, ◌&&◌, ◌||◌, Bool, false, true, List, [], ◌∷◌, ◌++◌, codes, drop, length, if◌then◌else◌, Option, Some, None, option_map}
use Rattle.std.specs.List.{starts_with}
use Rattle.subst_yaml_reader.specs.Block.{Turn, block_turn}
use Rattle.subst_yaml_reader.specs.Bytes.{is_mark_of_three, hyphen}
use Rattle.subst_yaml_reader.specs.Flow.{flow_turn}
use Rattle.subst_yaml_reader.specs.Runs.{after_lines, is_text}
use Rattle.subst_yaml_reader.specs.Scalar.{line_end_of, ◌>>=◌}
use Rattle.subst_yaml_reader.specs.State.{State, initial, innermost, without_events}
use Rattle.subst_yaml_reader.specs.declared.event.Event.{Event}

-- a turn, which reads the token at the start of the text
unfoldable pub turn : State → List ℕ → Turn
turn s text = elim (innermost s.brackets) [ None ↦ block_turn s text | Some bracket ↦ flow_turn s text ]

-- the events at the end of the text: the empty list, or `None` if a bracket isn't closed
unfoldable pub finish : State → Option (List Event)
finish s = elim (innermost s.brackets) [ None ↦ Some [] | Some bracket ↦ None ]

-- the events of a text from a token on: those of each turn, concatenated. The result is `None` if the text is
-- refused, or if reading it takes `turns` turns or more
unfoldable pub events_from : (turns : ℕ) → State → List ℕ → Option (List Event)
events_from zero s text = None
events_from (suc turns) s [] = finish s
events_from (suc turns) s (b ∷ rest) =
    elim (turn s (b ∷ rest)) [
      | None ↦ None
      | Some next ↦ option_map (λ later. next.0.events ++ later) (events_from turns (without_events next.0) next.1)
    ]

-- the text without the `%YAML 1.1` or `%YAML 1.2` at its start, or `None` if it begins with neither
abbrev pub after_version : List ℕ → Option (List ℕ)
after_version text =
    if starts_with (λ b c. b == c) text (codes "%YAML 1.1") || starts_with (λ b c. b == c) text (codes "%YAML 1.2")
    then Some (drop 9 text) else None

-- the text from its first line end on, or `None` if its first line isn't a directive. A directive is `%YAML
-- 1.1` or `%YAML 1.2`, optionally followed by blanks and a comment
abbrev pub directive_end : List ℕ → Option (List ℕ)
directive_end text = do
  rest ← after_version text
  line_end_of rest

-- the text begins at the start of its line; `line` is the number of bytes from the start of that line to the
-- end of the source
abbrev pub is_at_line : ℕ × List ℕ → Bool
is_at_line (line, text) = line - length text == 0

-- `next`, the token after `directive`, if it is `---` and both begin at the start of a line; otherwise
-- `directive`
abbrev pub begun : (directive next : ℕ × List ℕ) → ℕ × List ℕ
begun directive next =
    if is_at_line directive && is_at_line next && is_mark_of_three hyphen next.1 then next else directive

-- The token `---` after a directive `%YAML 1.1` or `%YAML 1.2`, with only comments and empty lines between
-- them. If the directive or the `---` is missing or doesn't begin a line, the result is the argument. A token
-- is a pair: the length of the source from the start of the token's line on, and the text from the token on.
unfoldable pub after_directive : ℕ × List ℕ → ℕ × List ℕ
after_directive (line, text) = elim (directive_end text) [
  | None ↦ (line, text)
  | Some end ↦ begun (line, text) (after_lines true false 0 end)
]

-- The events of a text of `size` bytes, from its first token on. Each turn reads at least one byte, so that
-- `size` + 1 turns suffice.
abbrev pub events_at : (size : ℕ) → ℕ × List ℕ → Option (List Event)
events_at size (line, text) = events_from (size + 1) (initial size line) text

-- the events of a text, which may begin with comments, empty lines and a directive
unfoldable pub events_of : List ℕ → Option (List Event)
events_of text = events_at (length text) (after_directive (after_lines true false (length text) text))

-- the events of a text, or `None` if it is refused
unfoldable pub read : List ℕ → Option (List Event)
read text = if is_text text then events_of text else None
