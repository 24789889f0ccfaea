-- Paths to the values of a text of YAML: how they are displayed, and how each event changes the path to the
-- next value.
use Rattle.std.specs.Prelude.{ℕ, ◌+◌, ◌-◌, nat_lt, if◌then◌else◌, List, [], ◌∷◌, ◌++◌, length, take, map, slice_get, Option, Some, None, codes}
use Rattle.std.specs.Fmt.{decimal}
use Rattle.std.specs.List.{flat_map}
use Rattle.subst_document.specs.Paths.{PathStep, Key, Index, step_of}
use Rattle.subst_yaml_reader.specs.declared.event.Bracket.{Bracket}
use Rattle.subst_yaml_reader.specs.declared.event.Bracket.TheVariants.{Sequence, Mapping, Pair}
use Rattle.subst_yaml_reader.specs.declared.event.Event.{Event}
use Rattle.subst_yaml_reader.specs.declared.event.Event.TheVariants as event
use Rattle.subst_yaml_reader.specs.declared.event.Span.{Span}
use Rattle.subst_yaml.specs.Filled.{text_of, token_at}
use Rattle.subst_yaml.specs.declared.path.Path as code
use Rattle.subst_yaml.specs.declared.paths.StepAt.{StepAt}
use Rattle.subst_yaml.specs.declared.paths.StepAt.TheVariants as step
use Rattle.subst_yaml.specs.declared.paths.Trail as walked

-- the path to a value: the number of its document, from 1, and the steps from the root
pub record Path : Type 0 where
  pub document : ℕ
  pub steps : List PathStep

abbrev pub path_of : code.Path → Path
path_of path = record { document = path.document; steps = map step_of path.steps.items }

-- the displayed text of a step: for a key, `dot` and the key as it is written; for an index, the index in
-- brackets
abbrev pub step_text : (dot : List ℕ) → PathStep → List ℕ
step_text dot (Key key) = dot ++ key
step_text dot (Index i) = codes "[" ++ (decimal i ++ codes "]")

-- the displayed texts of steps, concatenated, with a dot before each key except in the first step
abbrev pub steps_text : List PathStep → List ℕ
steps_text [] = []
steps_text (first ∷ steps) = step_text [] first ++ flat_map (step_text (codes ".")) steps

-- a colon if steps follow the number of a document, and otherwise nothing
abbrev pub colon_before : List PathStep → List ℕ
colon_before [] = []
colon_before (first ∷ steps) = codes ":"

-- the number n of a document, and a colon if steps follow; nothing for the first document
abbrev pub document_text : ℕ → List PathStep → List ℕ
document_text n steps = if nat_lt 1 n then decimal n ++ colon_before steps else []

-- the displayed text of a path
abbrev pub path_text : Path → List ℕ
path_text path = document_text path.document path.steps ++ steps_text path.steps

-- The path to the next value, while the events of a text are read. The step to the value of a key is the span
-- of the key's token. Items of sequences with and without brackets are distinct kinds of steps.
pub record Trail : Type 0 where
  pub document : ℕ
  pub steps : List StepAt

abbrev pub trail_of : walked.Trail → Trail
trail_of trail = record { document = trail.document; steps = trail.steps.items }

-- the trail before the first document
abbrev pub start : Trail
start = record { document = 0; steps = [] }

-- the trail at the start of the next document
abbrev pub begun : Trail → Trail
begun trail = record { document = trail.document + 1; steps = [] }

-- the trail with these steps
abbrev pub with_steps : List StepAt → Trail → Trail
with_steps steps trail = record { document = trail.document; steps = steps }

-- the trail with the step `next` in place of its steps from a depth on; the first step has depth 1
abbrev pub stepped : (depth : ℕ) → StepAt → Trail → Trail
stepped depth next trail = with_steps (take (depth - 1) trail.steps ++ next ∷ []) trail

-- the index of the item after a step: i + 1 after the item i of a sequence without brackets, and otherwise 0
abbrev pub next_index : Option StepAt → ℕ
next_index (Some (step.Item i)) = i + 1
next_index (Some (step.Key span)) = 0
next_index (Some (step.Member i)) = 0
next_index None = 0

-- the trail to the next item of the sequence at a depth
abbrev pub item : (depth : ℕ) → Trail → Trail
item depth trail = stepped depth (step.Item (next_index (slice_get trail.steps (depth - 1)))) trail

-- the trail with the step `next` at its end
abbrev pub entered : StepAt → Trail → Trail
entered next trail = with_steps (trail.steps ++ next ∷ []) trail

-- the trail without the last step
abbrev pub left : Trail → Trail
left trail = with_steps (take (length trail.steps - 1) trail.steps) trail

abbrev pub last_step : Trail → Option StepAt
last_step trail = slice_get trail.steps (length trail.steps - 1)

-- the trail after a value. The first argument is the last step of the trail before the value. An item in
-- brackets is replaced by the next item, and any other step is kept
abbrev pub past : Option StepAt → Trail → Trail
past (Some (step.Member i)) trail = entered (step.Member (i + 1)) (left trail)
past (Some (step.Key span)) trail = trail
past (Some (step.Item i)) trail = trail
past None trail = trail

abbrev pub went_on : Trail → Trail
went_on trail = past (last_step trail) trail

-- The first step in a collection in brackets. In a mapping or a pair, this step has an empty span, and the
-- step of the first key replaces it.
abbrev pub first_step : Bracket → StepAt
first_step Sequence = step.Member 0
first_step Mapping = step.Key (record { start = 0; «end» = 0 })
first_step Pair = step.Key (record { start = 0; «end» = 0 })

-- the trail to the next value after an event; the trail before the event of a value leads to that value
abbrev pub after_event : Trail → Event → Trail
after_event trail event.Document = begun trail
after_event trail (event.Item depth) = item depth trail
after_event trail (event.Key depth style span) = stepped depth (step.Key span) trail
after_event trail (event.Value style span in_flow indent) = went_on trail
after_event trail (event.Open bracket) = entered (first_step bracket) trail
after_event trail (event.FlowKey style span) = entered (step.Key span) (left trail)
after_event trail event.Null = went_on trail
after_event trail event.Close = went_on (left trail)

-- the bytes of a key, or no bytes for `None`
abbrev pub or_none : Option (List ℕ) → List ℕ
or_none None = []
or_none (Some key) = key

-- the key at a span of `text`, as it is written, or no bytes if it isn't UTF-8
abbrev pub key_at : (text : List ℕ) → Span → List ℕ
key_at text span = or_none (text_of (token_at text span))

abbrev pub path_step : (text : List ℕ) → StepAt → PathStep
path_step text (step.Key span) = Key (key_at text span)
path_step text (step.Item i) = Index i
path_step text (step.Member i) = Index i

abbrev pub path_at : (text : List ℕ) → Trail → Path
path_at text trail = record { document = trail.document; steps = map (path_step text) trail.steps }
