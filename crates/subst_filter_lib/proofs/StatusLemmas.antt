-- The bytes read and written by a failed run, from its status.
use Rattle.std.proofs.Common.{◌≡◌, ◌⊎◌, ℕ, List, Option, Some, None, IfSome, IsSomeAnd, Err, inl, inr, arith}
use Rattle.std.proofs.lemmas.Option.{IfSome_then}
use Rattle.std.specs.Io.KnownBytes.{Keeps}
use Rattle.subst.specs.ErrorFault.{error_fault}
use Rattle.subst.specs.Language.LookUp.{LookUp}
use Rattle.subst_filter_lib.specs.FilterRun.{RunAnswers, IsRefusedBy, Reports, OnceRead, UnlessWriting, WritesPrefix}
use Rattle.subst_filter_lib.specs.RunError.{error_status}
use Rattle.subst_filter_lib.specs.Task.{Accepts}
use Rattle.subst_filter_lib.specs.declared.run_error.RunError.{RunError}
use Rattle.subst_filter_lib.specs.declared.run_error.RunError.TheVariants.{Read, Write, NotUtf8, Subst, OutOfMemory}
use Rattle.subst_filter_lib.specs.declared.task.Task.{Task}
use Rattle.subst_filter_lib.specs.declared.status.TheConstants.{REFUSED, DEVICE_FAILED}

-- an option with a property of its value has a value
value_with : {X : Type 0} (o : Option X) (P : X → Type 0) → IsSomeAnd o P → (x : X) × P x
value_with None P h = absurd h
value_with (Some x) P h = (x, h)

-- at the status REFUSED, the task doesn't accept the source, or the source is refused
pub refused_at_status : (e : RunError) (task : Task) (left : Option (List ℕ)) (look : LookUp)
    (old new : Option (List ℕ)) → error_status e ≡ REFUSED
    → IfSome left (λ source. Reports (Accepts task source) (Err e))
    → IfSome left (λ source. RunAnswers source look (Err e) old new)
    → IfSome left (λ source. IsRefusedBy task source look)
refused_at_status Read task left look old new is reported run = absurd (omega arith)
refused_at_status Write task left look old new is reported run = absurd (omega arith)
refused_at_status NotUtf8 task left look old new is reported run =
    IfSome_then left reported (λ source not_taken. inl not_taken)
refused_at_status (Subst e highlighting) task None look old new is reported run = tt
refused_at_status (Subst e highlighting) task (Some source) look old new is reported run =
    inr (reported, value_with (error_fault e) _ run)
refused_at_status OutOfMemory task left look old new is reported run = absurd (omega arith)

-- at the status REFUSED, the source was read to the end
pub read_at_status : {P : Type 0} (e : RunError) → error_status e ≡ REFUSED → OnceRead (Err e) P → P
read_at_status Read is read = absurd (omega arith)
read_at_status Write is read = read
read_at_status NotUtf8 is read = read
read_at_status (Subst e highlighting) is read = read
read_at_status OutOfMemory is read = absurd (omega arith)

-- at the status DEVICE_FAILED, nothing was written, or a prefix of the answer
pub prefix_at_status : (e : RunError) (task : Task) (left : Option (List ℕ)) (look : LookUp)
    (old new : Option (List ℕ)) → error_status e ≡ DEVICE_FAILED
    → IfSome left (λ source. Reports (Accepts task source) (Err e)) → UnlessWriting (Err e) (Keeps old new)
    → IfSome left (λ source. RunAnswers source look (Err e) old new)
    → Keeps old new ⊎ IfSome left (λ source. Accepts task source × WritesPrefix source look old new)
prefix_at_status Read task left look old new is reported kept run = inl kept
prefix_at_status Write task None look old new is reported kept run = inr tt
prefix_at_status Write task (Some source) look old new is reported kept run = inr (reported, run)
prefix_at_status NotUtf8 task left look old new is reported kept run = absurd (omega arith)
prefix_at_status (Subst e highlighting) task left look old new is reported kept run = absurd (omega arith)
prefix_at_status OutOfMemory task left look old new is reported kept run = absurd (omega arith)
