-- The errors of a run, their texts, and the exit statuses of the program.
use Rattle.std.specs.Global.{Global}
use Rattle.std.specs.Prelude.{◌≡◌, ◌⊎◌, ℕ, Bool, true, ⊤, List, [], codes, String, string_bytes, Option, Some, IsSome}
use Rattle.subst.specs.Display.{display_of_error, IsDisplayOfError}
use Rattle.subst.specs.ErrorFault.{error_fault}
use Rattle.subst.specs.Errors.{Error}
use Rattle.subst.specs.Highlighting.{highlighting_of}
use Rattle.subst_filter_lib.specs.declared.run_error.RunError.{RunError}
use Rattle.subst_filter_lib.specs.declared.run_error.RunError.TheVariants.{Read, Write, NotUtf8, Subst, OutOfMemory}
use Rattle.subst_filter_lib.specs.declared.status.TheConstants.{REFUSED, DEVICE_FAILED, OUT_OF_MEMORY}

-- the error of a read is `OutOfMemory`, or it is `Read` and the input has failed. `failed` states whether the
-- input has failed
abbrev pub IsReadFault : Bool → RunError → Type 0
IsReadFault failed Read = failed ≡ true
IsReadFault failed OutOfMemory = ⊤
IsReadFault failed _ = ⊥

-- the error of a write is right: it is `Write`, and the output has failed; `failed` is whether the output has
-- failed
abbrev pub IsWriteFault : Bool → RunError → Type 0
IsWriteFault failed Write = failed ≡ true
IsWriteFault failed _ = ⊥

-- an error of a run over bytes: it is never NotUtf8, and a refusal states a fault without highlighting
abbrev pub IsFaultOfBytes : RunError → Type 0
IsFaultOfBytes NotUtf8 = ⊥
IsFaultOfBytes (Subst e highlighting) = IsSome (error_fault e) × (string_bytes highlighting ≡ [])
IsFaultOfBytes _ = ⊤

-- an error of a run over text: a refusal states a fault
abbrev pub IsFaultOfText : RunError → Type 0
IsFaultOfText (Subst e highlighting) = IsSome (error_fault e)
IsFaultOfText _ = ⊤

-- `fault` is the error of a run whose expansion failed with `e`: a refusal with `e` and some highlighting, or
-- out of memory
abbrev pub IsRefusalOf : Error → RunError → Type 0
IsRefusalOf e fault =
    (fault ≡ OutOfMemory)
    ⊎ (IsSome (error_fault e) × (highlighting : String Global) × (fault ≡ Subst e highlighting))

-- if the error is a refusal of `source`, `highlighting` highlights the refusal's fault
abbrev pub HighlightsFault : List ℕ → RunError → Type 0
HighlightsFault source (Subst e highlighting) = string_bytes highlighting ≡ highlighting_of (error_fault e) source
HighlightsFault source _ = ⊤

-- the exit status of the program after this error
abbrev pub error_status : RunError → ℕ
error_status (Subst e highlighting) = REFUSED
error_status NotUtf8 = REFUSED
error_status Read = DEVICE_FAILED
error_status Write = DEVICE_FAILED
error_status OutOfMemory = OUT_OF_MEMORY

-- the message of an error. For `Subst`, it is the message of the library's error, or `None` if that message
-- quotes a character that isn't ASCII
abbrev pub display_of_run : RunError → Option (List ℕ)
display_of_run Read = Some (codes "read failed")
display_of_run Write = Some (codes "write failed")
display_of_run NotUtf8 = Some (codes "input is not UTF-8")
display_of_run (Subst e highlighting) = display_of_error (error_fault e)
display_of_run OutOfMemory = Some (codes "out of memory")

-- `text` is a message of the error, or, for `Subst`, a message of the library's error that it holds
abbrev pub IsDisplayOfRun : RunError → List ℕ → Type 0
IsDisplayOfRun (Subst e highlighting) text = IsDisplayOfError (error_fault e) text
IsDisplayOfRun fault text = display_of_run fault ≡ Some text
