-- The calls of a run to files, and the calls for one file.
use Rattle.std.specs.List.{All}
use Rattle.std.specs.Prelude.{⊤, ◌≡◌, ◌⊎◌, ◌++◌, ◌∷◌, ℕ, List, [], Option, Some, IfSome}
use Rattle.subst_cli.specs.declared.files.AtPath.{AtPath}
use Rattle.subst_filter_lib.specs.declared.status.TheConstants.{DONE, REFUSED, DEVICE_FAILED, OUT_OF_MEMORY}

-- a call, with the path and with its result. `Unread`, `Unstaged` and `Uncommitted` failed
pub data Event : Type 0 where
  Read : (path bytes : List ℕ) → Event
  Unread : (path : List ℕ) → Event
  LookedAt : (path : List ℕ) → AtPath → Event
  Staged : (path bytes : List ℕ) → Event
  Unstaged : (path bytes : List ℕ) → Event
  Committed : (path : List ℕ) → Event
  Uncommitted : (path : List ℕ) → Event

-- the calls so far are `old` before `calls`, and `new` after them; nothing is required if `old` isn't known
abbrev pub GoesOn : (old new : Option (List Event)) → (calls : List Event) → Type 0
GoesOn old new calls = IfSome old (λ before. new ≡ Some (before ++ calls))

-- the call reads a file
abbrev pub IsRead : Event → Type 0
IsRead (Read path bytes) = ⊤
IsRead (Unread path) = ⊤
IsRead _ = ⊥

-- each call between these two states reads a file
unfoldable pub OnlyReads : (old new : Option (List Event)) → Type 0
OnlyReads old new = (calls : List Event) × All IsRead calls × GoesOn old new calls

-- the file was read, or couldn't be read
abbrev pub IsReadOrNot : (path : List ℕ) → (old new : Option (List Event)) → Type 0
IsReadOrNot path old new =
    GoesOn old new (Unread path ∷ []) ⊎ ((bytes : List ℕ) × GoesOn old new (Read path bytes ∷ []))

-- the bytes `all` were written to the file at `path`, or this failed; `status` is the exit status
pub data IsFileWritten (path all : List ℕ) : (status : ℕ) → (calls : List Event) → Type 0 where
  committed : IsFileWritten path all DONE (Staged path all ∷ Committed path ∷ [])
  uncommitted : IsFileWritten path all DEVICE_FAILED (Staged path all ∷ Uncommitted path ∷ [])
  unstaged : IsFileWritten path all DEVICE_FAILED (Unstaged path all ∷ [])

-- what a run did with a file. `s` are the bytes that it read, and `x` those that it handed on to be written
pub data FileResult : Type 0 where
  -- an earlier argument was the same file
  DoneBefore : FileResult
  -- the file isn't a regular file, so it can't be replaced
  Irregular : FileResult
  -- an earlier file has the same output path
  Taken : FileResult
  NotRead : FileResult
  Refused : (s : List ℕ) → FileResult
  -- nothing had to be written
  Kept : (s : List ℕ) → FileResult
  Written : (s x : List ℕ) → FileResult
  NotStaged : (s x : List ℕ) → FileResult
  NotCommitted : (s x : List ℕ) → FileResult
  -- memory ran out before anything was handed on
  NoMemory : (s : List ℕ) → FileResult

-- the calls for a file at the path `file`, whose output is written to the path `target`
abbrev pub calls_of : (file target : List ℕ) → FileResult → List Event
calls_of file target DoneBefore = []
calls_of file target Irregular = []
calls_of file target Taken = []
calls_of file target NotRead = Unread file ∷ []
calls_of file target (Refused s) = Read file s ∷ []
calls_of file target (Kept s) = Read file s ∷ []
calls_of file target (Written s x) = Read file s ∷ Staged target x ∷ Committed target ∷ []
calls_of file target (NotStaged s x) = Read file s ∷ Unstaged target x ∷ []
calls_of file target (NotCommitted s x) = Read file s ∷ Staged target x ∷ Uncommitted target ∷ []
calls_of file target (NoMemory s) = Read file s ∷ []

-- the exit status of a run over this file alone
abbrev pub status_of_result : FileResult → ℕ
status_of_result DoneBefore = DONE
status_of_result Irregular = DEVICE_FAILED
status_of_result Taken = DEVICE_FAILED
status_of_result NotRead = DEVICE_FAILED
status_of_result (Refused s) = REFUSED
status_of_result (Kept s) = DONE
status_of_result (Written s x) = DONE
status_of_result (NotStaged s x) = DEVICE_FAILED
status_of_result (NotCommitted s x) = DEVICE_FAILED
status_of_result (NoMemory s) = OUT_OF_MEMORY
