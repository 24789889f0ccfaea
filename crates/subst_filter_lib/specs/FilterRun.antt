-- The result of a run of the filter and the bytes that it writes, as the answer of its source requires.
use Rattle.std.specs.Prelude.{ℕ, ⊤, ◌⊎◌, List, Option, IsSomeAnd, Result, Ok, Err}
use Rattle.std.specs.Io.KnownBytes.{Appends}
use Rattle.std.specs.Str.{IsUtf8}
use Rattle.subst.specs.Language.Answer.{Answers, Gives, Refuses}
use Rattle.subst.specs.ErrorFault.{error_fault}
use Rattle.subst.specs.Fault.{Fault}
use Rattle.subst.specs.Language.LookUp.{LookUp}
use Rattle.subst.specs.Errors.{Error}
use Rattle.subst_filter_lib.specs.Device.{AppendsPrefix}
use Rattle.subst_filter_lib.specs.Task.{Accepts}
use Rattle.subst_filter_lib.specs.declared.run_error.RunError.{RunError}
use Rattle.subst_filter_lib.specs.declared.task.Task.{Task}
use Rattle.subst_filter_lib.specs.declared.run_error.RunError.TheVariants.{Read, Write, NotUtf8, Subst, OutOfMemory}

-- the output of `source` under the look-up `look` was written, and nothing else: all written bytes are `old`
-- before the run, and `new` after it
pub record WritesAnswer (source : List ℕ) (look : LookUp) (old new : Option (List ℕ)) : Type 0 where
  pub bytes : List ℕ
  pub given : Answers source look (Gives bytes)
  pub written : Appends old new bytes

-- a prefix of the output of `source` under the look-up `look` was written, and nothing else: all written
-- bytes are `old` before the run, and `new` after it
pub record WritesPrefix (source : List ℕ) (look : LookUp) (old new : Option (List ℕ)) : Type 0 where
  pub bytes : List ℕ
  pub given : Answers source look (Gives bytes)
  pub written : AppendsPrefix old new bytes

-- `source` is refused under the look-up `look`, for some fault
abbrev pub IsRefused : List ℕ → LookUp → Type 0
IsRefused source look = (f : Fault) × Answers source look (Refuses f)

-- `source` is refused under the look-up `look`, for the fault that the error `e` states
abbrev pub IsRefusedWith : List ℕ → LookUp → Error → Type 0
IsRefusedWith source look e = IsSomeAnd (error_fault e) (λ f. Answers source look (Refuses f))

-- `task` doesn't accept `source`, or `source` is refused under the look-up `look`, for some fault
abbrev pub IsRefusedBy : Task → List ℕ → LookUp → Type 0
IsRefusedBy task source look = ¬ (Accepts task source) ⊎ (Accepts task source × IsRefused source look)

-- the result of a run is right for `source` and the look-up `look`. All written bytes are `old` before the
-- run, and `new` after it. If the run is done, the output was written. If writing failed, a prefix of the
-- output was written. If the run refused the source, the error states the fault. Nothing is required of other
-- results
abbrev pub RunAnswers : List ℕ → LookUp → Result (Unit {0}) RunError → (old new : Option (List ℕ)) → Type 0
RunAnswers source look (Ok done) old new = WritesAnswer source look old new
RunAnswers source look (Err Write) old new = WritesPrefix source look old new
RunAnswers source look (Err (Subst e highlighting)) old new = IsRefusedWith source look e
RunAnswers source look (Err _) old new = ⊤

-- A run reports whether P holds for its source: the error is NotUtf8 if P doesn't hold, and only then. If
-- reading failed or memory ran out, nothing is required.
abbrev pub Reports : Type 0 → Result (Unit {0}) RunError → Type 0
Reports P (Err Read) = ⊤
Reports P (Err OutOfMemory) = ⊤
Reports P (Err NotUtf8) = ¬ P
Reports P _ = P

-- a run over text with the result `result` reports whether `source` is UTF-8
abbrev pub ReportsText : Result (Unit {0}) RunError → List ℕ → Type 0
ReportsText result source = Reports (IsUtf8 source) result

-- P holds, unless reading failed or memory ran out. A run that ended otherwise has read its source to the end
abbrev pub OnceRead : Result (Unit {0}) RunError → Type 0 → Type 0
OnceRead (Err Read) P = ⊤
OnceRead (Err OutOfMemory) P = ⊤
OnceRead _ P = P

-- P holds for a run, or for a part of it, unless reading failed
abbrev pub UnlessReadFails : {X : Type 0} → Result X RunError → Type 0 → Type 0
UnlessReadFails (Err Read) P = ⊤
UnlessReadFails _ P = P

-- P holds for a run, or for a part of it, unless writing failed
abbrev pub UnlessWriteFails : {X : Type 0} → Result X RunError → Type 0 → Type 0
UnlessWriteFails (Err Write) P = ⊤
UnlessWriteFails _ P = P

-- P holds, unless the run is done or writing failed. A run that ended otherwise can't have written anything
abbrev pub UnlessWriting : Result (Unit {0}) RunError → Type 0 → Type 0
UnlessWriting (Ok done) P = ⊤
UnlessWriting (Err Write) P = ⊤
UnlessWriting (Err _) P = P
