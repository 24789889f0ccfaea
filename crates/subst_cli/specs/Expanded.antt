-- A run that expands all sources and writes their outputs to one place.
use denote.Ref.{Bor}
use Rattle.std.specs.Prelude.{◌≡◌, ◌⊎◌, ◌++◌, ◌∷◌, ℕ, List, [], Option, IfOk, OnOk, Vec, Result, max, string_bytes}
use Rattle.std.specs.Io.KnownBytes.{Appends, Keeps}
use Rattle.subst_cli.specs.Files.{Event, GoesOn, IsFileWritten, Read, Unread}
use Rattle.subst_expander.specs.Fill.{AreOutputs}
use Rattle.subst_expander.specs.Layers.{Entry}
use Rattle.subst_expander.specs.Refusals.{AreRefusals}
use Rattle.subst_cli.specs.Status.{IsStatus, status_of}
use Rattle.subst_expander.specs.declared.format_rule.FormatRule.{FormatRule}
use Rattle.subst_options.specs.declared.Action.{Action}
use Rattle.subst_options.specs.declared.Action.TheVariants.{WriteTo}
use Rattle.subst_expander.specs.declared.kinds.Placeholders.{Placeholders}
use Rattle.subst_cli.specs.declared.report.Severity.{Severity}
use Rattle.subst_expander.specs.declared.source.Refused.{Refused}
use Rattle.subst_expander.specs.declared.source.Source.{Source}
use Rattle.subst_filter_lib.specs.Device.{AppendsPrefix}
use Rattle.subst_filter_lib.specs.declared.status.TheConstants.{DONE, REFUSED, DEVICE_FAILED, OUT_OF_MEMORY}

-- The files at `paths` were read, each after those before it, and `sources` are those that could be read.
-- `status` is the exit status after them, and `first` the one before.
pub data Reads (first : ℕ) : (paths : List (Bor (List ℕ))) → (sources : List Source) → (status : ℕ)
    → (calls : List Event) → Type 0 where
  none_read : Reads first [] [] first []
  then_read : {paths : List (Bor (List ℕ))} {sources : List Source} {status : ℕ} {calls : List Event}
      (path : Bor (List ℕ)) (source : Source) → Reads first paths sources status calls
      → string_bytes source.path ≡ path.now
      → Reads first (paths ++ path ∷ []) (sources ++ source ∷ []) status
      (calls ++ Read path.now source.bytes.items ∷ [])
  then_unread : {paths : List (Bor (List ℕ))} {sources : List Source} {status : ℕ} {calls : List Event}
      (path : Bor (List ℕ)) → Reads first paths sources status calls
      → Reads first (paths ++ path ∷ []) sources (max status DEVICE_FAILED) (calls ++ Unread path.now ∷ [])
  -- memory ran out after a file was read
  then_lost : {paths : List (Bor (List ℕ))} {sources : List Source} {status : ℕ} {calls : List Event}
      (path : Bor (List ℕ)) (bytes : List ℕ) → Reads first paths sources status calls
      → Reads first (paths ++ path ∷ []) sources (max status OUT_OF_MEMORY) (calls ++ Read path.now bytes ∷ [])

-- The bytes `all` were printed, or a prefix of them because the device failed; `status` is the exit status.
-- All printed bytes are `old` before, and `new` after it.
abbrev pub IsPrinted : (all : List ℕ) → (status : ℕ) → (old new : Option (List ℕ)) → Type 0
IsPrinted all status old new =
    (Appends old new all × (status ≡ DONE)) ⊎ (AppendsPrefix old new all × (status ≡ DEVICE_FAILED))

-- the bytes `all` were handed on to be written as the action requires
abbrev pub IsHandedOn : Action → (all : List ℕ) → (status : ℕ) → (calls : List Event)
    → (old new : Option (List ℕ)) → Type 0
IsHandedOn (WriteTo path) all status calls old new = IsFileWritten path.now all status calls × Keeps old new
IsHandedOn _ all status calls old new = (calls ≡ []) × IsPrinted all status old new

-- Nothing was written, for this reason: some source is refused, or the exit status was `read` and isn't
-- `DONE` after the sources were read. `worst` is the severity of the run.
abbrev pub IsReason : FormatRule → Placeholders → List Entry → (sources : List Source) → (read : ℕ)
    → (worst : Severity) → Type 0
IsReason rule placeholders entries sources read worst =
    ((refused : List Refused) × (¬ (refused ≡ [])) × AreRefusals rule placeholders entries sources refused
    × IsStatus worst (max read REFUSED))
    ⊎ ((¬ (status_of worst ≡ DONE)) × IsStatus worst read)

module _ {E : Type 0} (action : Action) (rule : FormatRule) (placeholders : Placeholders) (entries : List Entry)
    (worst : Severity) (result : Result (Unit {0}) E) where
  -- After the files before `left` were read, nothing was written. If the run didn't give up, all files were
  -- read, and there is a reason.
  abbrev pub IsUnwritten : (left : List (Bor (List ℕ))) → (sources : List Source) → (read : ℕ)
      → (calls : List Event) → (old new : Option (List ℕ)) → Type 0
  IsUnwritten left sources read calls old new = (calls ≡ []) × Keeps old new
      × OnOk result ((left ≡ []) × IsReason rule placeholders entries sources read worst)

  -- all outputs were handed on, in order, after all files were read
  abbrev pub AreHandedOn : (left : List (Bor (List ℕ))) → (sources : List Source) → (read : ℕ)
      → (calls : List Event) → (old new : Option (List ℕ)) → Type 0
  AreHandedOn left sources read calls old new = (all : List ℕ) × (status : ℕ) × (left ≡ []) × (read ≡ DONE)
      × AreOutputs rule placeholders entries sources all × IsHandedOn action all status calls old new
      × OnOk result (IsStatus worst status)

  -- A run over the files at `paths`, which gives up if memory runs out. `before` is the severity before the
  -- run. The calls so far are `first` before the run, and `last` after it; all printed bytes are `old` before
  -- the run, and `new` after it.
  abbrev pub IsExpandRun : (paths : List (Bor (List ℕ))) → (before : Severity)
      → (first last : Option (List Event)) → (old new : Option (List ℕ)) → Type 0
  IsExpandRun paths before first last old new = (handled : List (Bor (List ℕ))) × (left : List (Bor (List ℕ)))
      × (sources : List Source) × (read : ℕ) × (reading : List Event) × (writing : List Event)
      × (paths ≡ handled ++ left) × Reads (status_of before) handled sources read reading
      × GoesOn first last (reading ++ writing)
      × (IsUnwritten left sources read writing old new ⊎ AreHandedOn left sources read writing old new)

-- The files at `paths` were read, or memory ran out after some of them. `before` is the severity before it,
-- and `after` the one after it; the calls so far are `first` before it, and `last` after it.
abbrev pub AreSourcesRead : {Z E : Type 0} → (paths : List (Bor (List ℕ))) → (before after : Severity)
    → (first last : Option (List Event)) → Result (Vec Source Z) E → Type 0
AreSourcesRead paths before after first last result = (handled : List (Bor (List ℕ)))
    × (left : List (Bor (List ℕ))) × (sources : List Source) × (read : ℕ) × (calls : List Event)
    × (paths ≡ handled ++ left) × Reads (status_of before) handled sources read calls × GoesOn first last calls
    × IfOk result (λ all. (left ≡ []) × (all.items ≡ sources) × IsStatus after read)

-- If the severity `before` is none, the bytes `all` were handed on as the action requires. Otherwise nothing
-- was written.
abbrev pub AreOutputsWritten : {E : Type 0} → Action → (all : List ℕ) → (before after : Severity)
    → (first last : Option (List Event)) → (old new : Option (List ℕ)) → Result (Unit {0}) E → Type 0
AreOutputsWritten action all before after first last old new result =
    ((¬ (status_of before ≡ DONE)) × (after ≡ before) × (last ≡ first) × Keeps old new)
    ⊎ ((status_of before ≡ DONE) × ((status : ℕ) × (calls : List Event) × GoesOn first last calls
    × IsHandedOn action all status calls old new × OnOk result (IsStatus after status)))
