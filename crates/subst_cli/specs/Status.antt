-- The severity of a run, and its exit status.
use Rattle.std.specs.Prelude.{◌≡◌, ◌⊎◌, ◌≤◌, ℕ, max, if◌then◌else◌, nat_lt}
use Rattle.subst_filter_lib.specs.declared.status.TheConstants.{DONE, REFUSED, WRONG_ARGUMENTS, DEVICE_FAILED, OUT_OF_MEMORY}
use Rattle.subst_cli.specs.declared.report.Severity.{Severity}
use Rattle.subst_cli.specs.declared.report.Severity.TheVariants.{Nothing, Refusal, Misuse, Failure, Exhaustion}

-- the exit status of a run of this severity
abbrev pub status_of : Severity → ℕ
status_of Nothing = DONE
status_of Refusal = REFUSED
status_of Misuse = WRONG_ARGUMENTS
status_of Failure = DEVICE_FAILED
status_of Exhaustion = OUT_OF_MEMORY

-- the higher one of two severities, by their exit statuses
abbrev pub worse : Severity → Severity → Severity
worse a b = if nat_lt (status_of a) (status_of b) then b else a

-- the exit status of a run of this severity is `status`, unless memory ran out
abbrev pub IsStatus : Severity → (status : ℕ) → Type 0
IsStatus worst status = (OUT_OF_MEMORY ≤ status_of worst) ⊎ (status_of worst ≡ status)

-- the exit status rises to `status` if that is higher, unless memory ran out
abbrev pub Raises : (old new : Severity) → (status : ℕ) → Type 0
Raises old new status = IsStatus new (max (status_of old) status)
