-- The output of parts, written by the loop over a list or by a writer that takes one part after the other.
use Rattle.std.specs.Prelude.{◌≡◌, ℕ, ◌+◌, ◌<◌, ◌≤◌, List, [], ◌∷◌, ◌++◌, length, Option, Some, IfSome, is_some, Bool, false, Result, IfErr, IfOk, OnOk}
use Rattle.std.specs.List.{AllByRecursion}
use Rattle.subst_language.specs.Language.LookUp.{LookUp}
use Rattle.subst_language.specs.Parts.Meaning.{steps_in, visited_parts, parts_steps}
use Rattle.subst_language.specs.Parts.Span.{span_bytes}
use Rattle.subst_expand.specs.Context.{Context, ByContext, Writes, Stops, WritesPart, StopsAtPart, jump_of}
use Rattle.subst_expand.specs.declared.expand.Stop.{Stop}
use Rattle.subst_language.specs.declared.part.Span.{Span}
use Rattle.subst_language.specs.declared.part.Part.{Part}
use Rattle.subst_language.specs.declared.part.Part.TheVariants.{Default}
use Rattle.subst_expand.specs.declared.writer.State.{State}
use Rattle.subst_expand.specs.declared.writer.State.TheVariants.{Writing, Jumping, Stopped}

-- if `part` is a default whose name has a value, the expansion continues after it at an index above 0 and at
-- most `end`
abbrev pub HasJump : {Seen : Type 0} → (List ℕ → Option Seen) → List ℕ → ℕ → Part → Type 0
HasJump look_up s end part = IfSome (jump_of look_up s part) (λ next. (0 < next) × (next ≤ end))

-- `HasJump` for each part of the list
abbrev pub AllHaveJumps : {Seen : Type 0} → (List ℕ → Option Seen) → List ℕ → ℕ → List Part → Type 0
AllHaveJumps look_up s end parts = AllByRecursion (HasJump look_up s end) parts

-- the parts that `visited` computes from the look-up were written to an output, whose states are `before` and
-- `after`
abbrev pub WritesVisited : {V Seen W First : Type 0} → Context V Seen W First → List ℕ → (LookUp → List Part)
    → W → W → Type 0
WritesVisited context s visited before after =
    Writes context (λ look. steps_in (visited look) s look) before after

-- all visited parts of a list were written to an output, whose states are `before` and `after`; s is the
-- list's source
abbrev pub WritesParts : {V Seen W First : Type 0} → Context V Seen W First → List ℕ → List Part → W → W
    → Type 0
WritesParts context s parts before after =
    WritesVisited context s (λ look. visited_parts parts 0 0 s look) before after

-- writing stopped within the parts of the source s, for the reason `stopped`
abbrev pub StopsInParts : {V Seen W First : Type 0} → Context V Seen W First → List ℕ → Stop → List Part → W
    → W → Type 0
StopsInParts context s stopped parts before after =
    Stops context s stopped (parts_steps parts s) before after

-- The outcome of writing the parts of the source s: all visited parts were written, or writing stopped within
-- the parts. If all were written, the number of added turns is the number of visited parts. If writing
-- stopped, it is at most that number.
pub record AppendsParts {V Seen W First : Type 0} (context : Context V Seen W First) (s : List ℕ)
    (parts : List Part) (result : Result (Unit {0}) Stop) (before after : W) (turns_before turns_after : ℕ)
    : Type 0 where
  pub written : IfOk result (λ _. WritesParts context s parts before after)
  pub stopped : IfErr result (λ stop. StopsInParts context s stop parts before after)
  pub counted : ByContext context (λ look. OnOk result
      (turns_after ≡ turns_before + length (visited_parts parts 0 0 s look)))
  pub at_most : ByContext context (λ look.
      turns_after ≤ turns_before + length (visited_parts parts 0 0 s look))
  pub grown : turns_before ≤ turns_after

-- all visited parts were written to an output with the states `first` and `now`. Every default whose name has
-- a value is closed: its `next` is above 0 and at most the number of parts
pub record IsWriting {V Seen W First : Type 0} (context : Context V Seen W First) (s : List ℕ) (first now : W)
    (parts : List Part) : Type 0 where
  pub settled : AllHaveJumps context.look_up s (length parts) parts
  pub written : WritesParts context s parts first now

-- The part at `index` is an open default whose name has a value. This part and the visited parts before it
-- were written. The parts after it belong to the default, and were skipped.
pub record IsJumping {V Seen W First : Type 0} (context : Context V Seen W First) (s : List ℕ) (index : ℕ)
    (first now : W) (parts : List Part) : Type 0 where
  pub before : List Part
  pub name : Span
  pub own : List Part
  pub splits : parts ≡ before ++ Default name 0 ∷ own
  pub is : index ≡ length before
  pub settled : AllHaveJumps context.look_up s (length before) before
  pub value : Seen
  pub found : context.look_up (span_bytes name s) ≡ Some value
  pub written : WritesParts context s (before ++ Default name 0 ∷ []) first now

-- writing stopped at one of the parts, for the reason `stopped`; the visited parts before it were written
pub record HasStopped {V Seen W First : Type 0} (context : Context V Seen W First) (s : List ℕ)
    (stopped : Stop) (first now : W) (parts : List Part) : Type 0 where
  pub done : List Part
  pub part : Part
  pub rest : List Part
  pub splits : parts ≡ done ++ part ∷ rest
  pub settled : AllHaveJumps context.look_up s (length done) done
  pub before : W
  pub written : WritesParts context s done first before
  pub stops : StopsAtPart context s part stopped before now

-- the parts that a writer has taken were written as far as its state requires. `Writing`: all visited parts.
-- `Jumping`: the visited parts up to an open default, whose own parts are skipped. `Stopped`: the visited
-- parts before the one at which writing stopped
abbrev pub HasWritten : {V Seen W First : Type 0} → Context V Seen W First → List ℕ → State → W → W
    → List Part → Type 0
HasWritten context s Writing first now parts = IsWriting context s first now parts
HasWritten context s (Jumping index) first now parts = IsJumping context s index first now parts
HasWritten context s (Stopped stopped) first now parts = HasStopped context s stopped first now parts

-- writing hasn't stopped
abbrev pub NotStopped : State → Type 0
NotStopped (Stopped stopped) = ⊥
NotStopped state = Unit {0}

-- The outcome of writing a part, depending on the writer's state afterwards: the part was written, or writing
-- stopped at the part. `found` is whether the part was written and is a default whose name has a value.
abbrev pub PartWritten : {V Seen W First : Type 0} → Context V Seen W First → List ℕ → Part → W → Bool → State
    → W
    → Type 0
PartWritten context s part before found Writing now =
    WritesPart context s part before now × (found ≡ is_some (jump_of context.look_up s part))
PartWritten context s part before found (Jumping index) now = ⊥
PartWritten context s part before found (Stopped stopped) now =
    StopsAtPart context s part stopped before now × (found ≡ false)

-- the outcome of writing a part, if the writer's state was `Writing`; in any other state nothing changed
abbrev pub WritesOn : {V Seen W First : Type 0} → Context V Seen W First → List ℕ → Part → State → W → Bool
    → State
    → W → Type 0
WritesOn context s part Writing before found state now = PartWritten context s part before found state now
WritesOn context s part old before found state now = (state ≡ old) × (now ≡ before) × (found ≡ false)
