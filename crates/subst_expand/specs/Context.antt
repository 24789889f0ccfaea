-- The effect of writing a single part to an output.
use Rattle.std.specs.Prelude.{◌≡◌, ℕ, ◌+◌, ◌<◌, ◌≤◌, List, length, Option, None}
use Rattle.std.specs.Option.{option_map}
use Rattle.subst_language.specs.Language.LookUp.{LookUp}
use Rattle.subst_language.specs.Language.Name.{IsName}
use Rattle.subst_language.specs.Language.Steps.{Step, steps_value}
use Rattle.subst_language.specs.Language.Value.{Bytes, Missing}
use Rattle.subst_language.specs.Language.Written.{steps_written}
use Rattle.subst_language.specs.Calls.VariableMap.{ByLookUp}
use Rattle.subst_expand.specs.Filled.{FillsMarks, marks_of}
use Rattle.subst_expand.specs.Output.{Appended}
use Rattle.subst_language.specs.Parts.Meaning.{part_steps}
use Rattle.subst_language.specs.Parts.Span.{IsSpan, span_bytes}
use Rattle.subst_expand.specs.declared.expand.Stop.{Stop}
use Rattle.subst_expand.specs.declared.expand.Stop.TheVariants.{Full}
use Rattle.subst_expand.specs.declared.expand.Stop.TheVariants as stop
use Rattle.subst_language.specs.declared.part.Part.{Part}
use Rattle.subst_language.specs.declared.part.Part.TheVariants.{Default}

-- The ghost members of the reader, the map and the output of an expansion. The reader's `read` maps a value
-- to its bytes, and its `is_read` holds of the bytes of each value that is read. The map's `see` and
-- `look_up` define, with `read`, the look-up from names to bytes. The output's `holds` relates an output, its
-- first state and its bytes. The output's `len` and `capacity` are in bytes.
pub record Context (V Seen W First : Type 0) : Type 1 where
  pub read : V → List ℕ
  pub is_read : List ℕ → Type 0
  pub see : V → Seen
  pub look_up : List ℕ → Option Seen
  pub holds : W → First → List ℕ → Type 0
  pub len : W → ℕ
  pub capacity : W → ℕ

abbrev pub context_of : {V Seen W First : Type 0} → (V → List ℕ) → (List ℕ → Type 0) → (V → Seen)
    → (List ℕ → Option Seen) → (W → First → List ℕ → Type 0) → (W → ℕ) → (W → ℕ) → Context V Seen W First
context_of read is_read see look_up holds len capacity = record {
  read = read;
  is_read = is_read;
  see = see;
  look_up = look_up;
  holds = holds;
  len = len;
  capacity = capacity;
}

-- `ByLookUp` for the context's map: P holds of the look-up from names to the bytes of the map's values
abbrev pub ByContext : {V Seen W First : Type 0} → Context V Seen W First → (LookUp → Type 0) → Type 0
ByContext context P = ByLookUp context.read context.see context.look_up P

-- the value of `steps` was written to an output, whose states are `before` and `after`
pub record Writes {V Seen W First : Type 0} (context : Context V Seen W First) (steps : LookUp → List Step)
    (before after : W) : Type 0 where
  pub given : ByContext context (λ look.
      Appended context.holds (λ x. steps_value (steps look) ≡ Bytes x) before after)
  pub filled : Appended context.holds
      (FillsMarks context.is_read (steps_value (steps (marks_of context.look_up)))) before after
  pub long : ByContext context (λ look.
      context.len after ≡ context.len before + length (steps_written (steps look)))
  pub capacity : context.capacity before ≤ context.capacity after

-- An expansion of the source s stopped in the steps. If it stopped for `Full`, the output's capacity is too
-- small for the bytes of the steps. If it stopped for `Missing name`, the value of the steps is the missing
-- variable whose name is in the span `name`.
abbrev pub StopsAt : {V Seen W First : Type 0} → Context V Seen W First → List ℕ → Stop
    → (LookUp → List Step) → W → Type 0
StopsAt context s (Full e) steps before = ByContext context (λ look.
    context.capacity before < context.len before + length (steps_written (steps look)))
StopsAt context s (stop.Missing name) steps before =
    ByContext context (λ look. steps_value (steps look) ≡ Missing name.start (span_bytes name s))
    × (steps_value (steps (marks_of context.look_up)) ≡ Missing name.start (span_bytes name s))
    × IsSpan s name × IsName (span_bytes name s)

pub record Stops {V Seen W First : Type 0} (context : Context V Seen W First) (s : List ℕ) (stopped : Stop)
    (steps : LookUp → List Step) (before after : W) : Type 0 where
  pub begins : Appended context.holds (λ _. Unit {0}) before after
  pub at : StopsAt context s stopped steps before
  pub capacity : context.capacity before ≤ context.capacity after

-- the value of the part was written to an output, whose states are `before` and `after`; s is the source
abbrev pub WritesPart : {V Seen W First : Type 0} → Context V Seen W First → List ℕ → Part → W → W → Type 0
WritesPart context s part before after = Writes context (part_steps part s) before after

-- writing stopped at the part, for the reason `stopped`; `before` and `after` are the output's states
abbrev pub StopsAtPart : {V Seen W First : Type 0} → Context V Seen W First → List ℕ → Part → Stop → W → W
    → Type 0
StopsAtPart context s part stopped before after = Stops context s stopped (part_steps part s) before after

-- the index at which an expansion continues after a default whose name has a value; `None` for any other part
abbrev pub jump_of : {Seen : Type 0} → (List ℕ → Option Seen) → List ℕ → Part → Option ℕ
jump_of look_up s (Default name next) = option_map (λ _. next) (look_up (span_bytes name s))
jump_of look_up s part = None
