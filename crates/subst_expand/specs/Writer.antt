-- The parts that a writer, as a sink, has taken.
use Rattle.std.specs.Prelude.{◌≡◌, ℕ, List, length, Option}
use Rattle.subst_expand.specs.Context.{Context}
use Rattle.subst_expand.specs.Writing.{HasWritten}
use Rattle.subst_language.specs.declared.part.Part.{Part}
use Rattle.subst_expand.specs.declared.writer.State.{State}
use Rattle.subst_expand.specs.declared.writer.Writer.{Writer}

-- the first state of a writer: its source, its map's look-up, and its output
pub record AtFirst (Seen W : Type 0) : Type 0 where
  pub source : List ℕ
  pub look_up : List ℕ → Option Seen
  pub output : W

-- A writer has taken the parts, and has written them as far as its state requires. Its output is `now`. Its
-- source s and its map's look-up are those of `first`, and `len` is the number of the parts.
pub record HoldsParts {V Seen W First : Type 0} (context : Context V Seen W First) (s : List ℕ) (len : ℕ)
    (state : State) (now : W) (first : AtFirst Seen W) (parts : List Part) : Type 0 where
  pub source : s ≡ first.source
  pub map : context.look_up ≡ first.look_up
  pub count : len ≡ length parts
  pub written : HasWritten context s state first.output now parts

-- `HoldsParts` for the fields of a writer, with the context of its map
abbrev pub WriterHolds : {V Seen M R W First : Type 0} → (M → Context V Seen W First) → Writer M R W
    → AtFirst Seen W → List Part → Type 0
WriterHolds context writer first parts =
    HoldsParts (context writer.variables.now) writer.source.now writer.len writer.state writer.output first parts

-- the output of a writer
abbrev pub output_of : {M R W : Type 0} → Writer M R W → W
output_of writer = writer.output

-- the state of a writer
abbrev pub state_of : {M R W : Type 0} → Writer M R W → State
state_of writer = writer.state
