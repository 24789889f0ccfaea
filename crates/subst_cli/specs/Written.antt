-- The results of a run for its files, each with its calls and its exit status.
use Rattle.std.specs.Prelude.{◌≡◌, ◌==◌, ◌&&◌, ◌⊎◌, ◌++◌, ◌∷◌, ⊤, ℕ, Bool, List, [], Option, OnOk, Result, max, string_bytes}
use Rattle.std.specs.Bool.{MatchBool}
use Rattle.std.specs.List.{list_any}
use Rattle.std.specs.Str.{bytes_eq}
use Rattle.subst_cli.specs.Files.{Event, LookedAt, Read, Unread, GoesOn, FileResult, DoneBefore, Irregular, Taken, NotRead, Refused, Kept, Written, NotStaged, NotCommitted, NoMemory, IsFileWritten, calls_of, status_of_result}
use Rattle.subst_expander.specs.Fill.{IsOutput}
use Rattle.subst_expander.specs.FormatRule.{format_of_path}
use Rattle.subst_expander.specs.Layers.{Entry}
use Rattle.subst_expander.specs.Refusals.{AreFaultsFor}
use Rattle.subst_cli.specs.Status.{IsStatus, Raises, status_of}
use Rattle.subst_cli.specs.Templates.{target_in}
use Rattle.subst_expander.specs.declared.fault.Fault.{Fault}
use Rattle.subst_cli.specs.declared.files.AtPath.{AtPath}
use Rattle.subst_cli.specs.declared.files.AtPath.TheVariants.{Regular, Other, Unknown}
use Rattle.subst_expander.specs.declared.format_rule.FormatRule.{FormatRule}
use Rattle.subst_expander.specs.declared.kinds.Placeholders.{Placeholders}
use Rattle.subst_cli.specs.declared.per_file.Output.{Output}
use Rattle.subst_cli.specs.declared.report.Severity.{Severity}
use Rattle.subst_cli.specs.declared.templates.Template.{Template}
use Rattle.subst_filter_lib.specs.declared.status.TheConstants.{REFUSED, DEVICE_FAILED, OUT_OF_MEMORY}

-- one of `places` is this one
abbrev pub has_place : (places : List (ℕ × ℕ)) → ℕ × ℕ → Bool
has_place places place = list_any (λ it. place.0 == it.0 && place.1 == it.1) places

-- the places of the files that are done, after the file that is now at `at` was done
abbrev pub with_place : (places : List (ℕ × ℕ)) → (at : AtPath) → List (ℕ × ℕ)
with_place places (Regular place) = place ∷ places
with_place places Other = places
with_place places Unknown = places

-- an earlier template has this output path
abbrev pub is_taken : (directory : List ℕ) → (earlier : List Template) → (target : List ℕ) → Bool
is_taken directory earlier target = list_any (λ it. bytes_eq (target_in directory it) target) earlier

-- Some result of the file at the path `file` `Is` right. Its calls follow those before it, which are `first`,
-- and are `last` then; the severity `before` rises to `after`.
abbrev pub IsDone : (Is : FileResult → Type 0) → (file target : List ℕ) → (first last : Option (List Event))
    → (before after : Severity) → Type 0
IsDone Is file target first last before after = (result : FileResult) × Is result
    × GoesOn first last (calls_of file target result) × Raises before after (status_of_result result)

-- there is no source for the file at `path`: it wasn't read, or memory ran out after that
abbrev pub IsUnread : (path : List ℕ) → (first last : Option (List Event)) → (before after : Severity) → Type 0
IsUnread path first last before after =
    (GoesOn first last (Unread path ∷ []) × Raises before after DEVICE_FAILED)
    ⊎ ((s : List ℕ) × GoesOn first last (Read path s ∷ []) × Raises before after OUT_OF_MEMORY)

module _ (rule : FormatRule) (placeholders : Placeholders) (entries : List Entry) where
  -- `x` is the output of the file at `path` with the bytes `s`
  unfoldable pub Gives : (path s x : List ℕ) → Type 0
  Gives path = IsOutput (format_of_path rule path) placeholders entries

  -- the file at `path` with the bytes `s` is refused
  unfoldable pub Refuses : (path s : List ℕ) → Type 0
  Refuses path s = (faults : List Fault) × AreFaultsFor (format_of_path rule path) placeholders entries s faults

  -- the output of the file at `path` with the bytes `s`; it states whether it is the source
  abbrev pub IsOutputOf : (path s : List ℕ) → Output → Type 0
  IsOutputOf path s output = Gives path s output.bytes.items
      × MatchBool output.is_source (output.bytes.items ≡ s) (¬ (output.bytes.items ≡ s))

  -- the file at `path` with the bytes `s` has no output: it is refused, or memory ran out
  abbrev pub HasNoOutput : (path s : List ℕ) → (before after : Severity) → Type 0
  HasNoOutput path s before after =
      (Refuses path s × Raises before after REFUSED) ⊎ Raises before after OUT_OF_MEMORY

  -- the result is right for a file at `path` that is replaced by its output, unless they are equal
  abbrev pub IsReplaced : (path : List ℕ) → FileResult → Type 0
  IsReplaced path NotRead = ⊤
  IsReplaced path (Refused s) = Refuses path s
  IsReplaced path (Kept s) = Gives path s s
  IsReplaced path (Written s x) = Gives path s x × ¬ (x ≡ s)
  IsReplaced path (NotStaged s x) = Gives path s x × ¬ (x ≡ s)
  IsReplaced path (NotCommitted s x) = Gives path s x × ¬ (x ≡ s)
  IsReplaced path (NoMemory s) = ⊤
  IsReplaced path _ = ⊥

  -- the result is right for a file at `path` that is to be replaced; `at` is the kind of this file, and
  -- `places` are those of the files that are done
  abbrev pub IsReplacedOnce : (places : List (ℕ × ℕ)) → (at : AtPath) → (path : List ℕ) → FileResult → Type 0
  IsReplacedOnce places (Regular place) path result =
      MatchBool (has_place places place) (result ≡ DoneBefore) (IsReplaced path result)
  IsReplacedOnce places Other path result = result ≡ Irregular
  IsReplacedOnce places Unknown path result = IsReplaced path result

  -- The file at `file` was looked at and handled. `places` are those of the files that are done.
  abbrev pub IsDoneOnce : (places : List (ℕ × ℕ)) → (file : List ℕ) → (first last : Option (List Event))
      → (before after : Severity) → Type 0
  IsDoneOnce places file first last before after = (at : AtPath) × (result : FileResult)
      × IsReplacedOnce places at file result
      × GoesOn first last (LookedAt file at ∷ calls_of file file result)
      × Raises before after (status_of_result result)

  -- the result is right for a file at `path` whose output is written to another path
  abbrev pub IsWritten : (path : List ℕ) → FileResult → Type 0
  IsWritten path NotRead = ⊤
  IsWritten path (Refused s) = Refuses path s
  IsWritten path (Written s x) = Gives path s x
  IsWritten path (NotStaged s x) = Gives path s x
  IsWritten path (NotCommitted s x) = Gives path s x
  IsWritten path (NoMemory s) = ⊤
  IsWritten path _ = ⊥

  -- the same, where `taken` states whether an earlier file has the same output path
  abbrev pub IsWrittenOnce : (taken : Bool) → (path : List ℕ) → FileResult → Type 0
  IsWrittenOnce taken path result = MatchBool taken (result ≡ Taken) (IsWritten path result)

  -- the result is right for a file at `path` that is only checked; `strict` states whether defaults in other
  -- syntaxes may be refused
  abbrev pub IsChecked : (strict : Bool) → (path : List ℕ) → FileResult → Type 0
  IsChecked strict path NotRead = ⊤
  IsChecked strict path (Refused s) = MatchBool strict ⊤ (Refuses path s)
  IsChecked strict path (Kept s) = (x : List ℕ) × Gives path s x
  IsChecked strict path (NoMemory s) = ⊤
  IsChecked strict path _ = ⊥

  -- The files of `templates` were replaced, each after those before it. `status` is the exit status after
  -- them, `first` the one before, and `places` are those of the files that are done. Each file is looked at
  -- before it's handled, and again afterwards.
  pub data Replaces (first : ℕ) : (templates : List Template) → (status : ℕ) → (calls : List Event)
      → (places : List (ℕ × ℕ)) → Type 0 where
    none_replaced : Replaces first [] first [] []
    then_replaced : {templates : List Template} {status : ℕ} {calls : List Event} {places : List (ℕ × ℕ)}
        (template : Template) (before after : AtPath) (result : FileResult)
        → Replaces first templates status calls places
        → IsReplacedOnce places before (string_bytes template.file) result
        → Replaces first (templates ++ template ∷ []) (max status (status_of_result result))
        (calls ++ (LookedAt (string_bytes template.file) before
        ∷ (calls_of (string_bytes template.file) (string_bytes template.file) result
        ++ (LookedAt (string_bytes template.file) after ∷ [])))) (with_place places after)

  -- The outputs of `templates` were written into `directory`, each after those before it. `status` is the
  -- exit status after them, and `first` the one before.
  pub data WritesInto (directory : List ℕ) (first : ℕ) : (templates : List Template) → (status : ℕ)
      → (calls : List Event) → Type 0 where
    none_written : WritesInto directory first [] first []
    then_written : {templates : List Template} {status : ℕ} {calls : List Event} (template : Template)
        (result : FileResult) → WritesInto directory first templates status calls
        → IsWrittenOnce (is_taken directory templates (target_in directory template))
        (string_bytes template.file) result
        → WritesInto directory first (templates ++ template ∷ []) (max status (status_of_result result))
        (calls ++ calls_of (string_bytes template.file) (target_in directory template) result)

  -- `templates` were checked, each after those before it. `status` is the exit status after them, and
  -- `first` the one before.
  pub data Checks (strict : Bool) (first : ℕ) : (templates : List Template) → (status : ℕ)
      → (calls : List Event) → Type 0 where
    none_checked : Checks strict first [] first []
    then_checked : {templates : List Template} {status : ℕ} {calls : List Event} (template : Template)
        (result : FileResult) → Checks strict first templates status calls
        → IsChecked strict (string_bytes template.file) result
        → Checks strict first (templates ++ template ∷ []) (max status (status_of_result result))
        (calls ++ calls_of (string_bytes template.file) [] result)

-- A run over `templates`, which may give up between two files if memory runs out. `Did` holds for the files
-- that were handled, the exit status after them and their calls. The calls so far are `old` before the run,
-- and `new` after it. If the run didn't give up, it handled all files. The severity `worst` after it is then
-- that of this status, unless memory ran out.
abbrev pub IsRun : {E : Type 0} → (Did : List Template → ℕ → List Event → Type 0) → (templates : List Template)
    → (old new : Option (List Event)) → (worst : Severity) → Result (Unit {0}) E → Type 0
IsRun Did templates old new worst result = (handled : List Template) × (left : List Template) × (status : ℕ)
    × (calls : List Event) × (templates ≡ handled ++ left) × Did handled status calls × GoesOn old new calls
    × OnOk result ((left ≡ []) × IsStatus worst status)

module _ (rule : FormatRule) (placeholders : Placeholders) (entries : List Entry) where
  -- a run that replaces files; `before` is the severity before the run
  abbrev pub IsReplaceRun : {E : Type 0} → (before worst : Severity) → (templates : List Template)
      → (old new : Option (List Event)) → Result (Unit {0}) E → Type 0
  IsReplaceRun before worst templates old new result = IsRun (λ handled status calls. (places : List (ℕ × ℕ))
      × Replaces rule placeholders entries (status_of before) handled status calls places)
      templates old new worst result

  -- a run that checks files
  abbrev pub IsCheckRun : (strict : Bool) → (before worst : Severity) → (templates : List Template)
      → (old new : Option (List Event)) → Type 0
  IsCheckRun strict before worst templates old new = (status : ℕ) × (calls : List Event)
      × Checks rule placeholders entries strict (status_of before) templates status calls
      × GoesOn old new calls × IsStatus worst status

-- the bytes `all` were written to the file at `path`, or this failed. The calls so far are `first` before it,
-- and `last` after it; the severity `before` rises to `after`
abbrev pub IsWriting : (path all : List ℕ) → (first last : Option (List Event)) → (before after : Severity)
    → Type 0
IsWriting path all first last before after = (status : ℕ) × (calls : List Event)
    × IsFileWritten path all status calls × GoesOn first last calls × Raises before after status
