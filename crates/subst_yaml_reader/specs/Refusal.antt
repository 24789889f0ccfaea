-- Refusals of a text.
use Rattle.std.specs.Prelude.{◌≡◌, ◌≤◌, ◌==◌, ◌+◌, ℕ, List, Option, None, count_by, take, length}
use Rattle.subst_yaml_reader.specs.Bytes.{line_feed}
use Rattle.subst_yaml_reader.specs.declared.error.Error.{Error}
use Rattle.subst_yaml_reader.specs.declared.error.Error.TheVariants.{Refused, OutOfMemory}
use Rattle.subst_yaml_reader.specs.declared.event.Event.{Event}

-- the span of a refusal is in the text, and the refusal's `line` is that of the span's start, counted from 1
abbrev pub IsInside : Error → List ℕ → Type 0
IsInside (Refused fault) text = (fault.span.start ≤ fault.span.«end») × (fault.span.«end» ≤ length text)
    × (fault.line ≡ count_by (λ b. b == line_feed) (take fault.span.start text) + 1)
IsInside OutOfMemory text = Unit {0}

-- The error is right for a text and its events. If it is a refusal, `events` is `None`, and the span is in
-- the text. If memory ran out, nothing is stated.
abbrev pub IsRefused : Error → List ℕ → Option (List Event) → Type 0
IsRefused (Refused fault) text events = (events ≡ None) × IsInside (Refused fault) text
IsRefused OutOfMemory text events = Unit {0}
