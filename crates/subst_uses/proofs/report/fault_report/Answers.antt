-- An error other than out of memory states a fault, and its report is that of the fault.
use Rattle.std.proofs.Common.{◌≡◌, ◌≢◌, None, refl, string_bytes}
use Rattle.std.specs.declared.alloc.AllocError.{AllocError}
use Rattle.subst.specs.ErrorFault.{error_fault}
use Rattle.subst.specs.Errors.{Error}
use Rattle.subst.specs.Errors.error.{OutOfMemory}
use Rattle.subst_uses.proofs.ReportLemmas.{report_of_a_fault}
use Rattle.subst_uses.proofs.report.fault_report.Goals as goal

-- an error other than out of memory states a fault
states_a_fault : (e : Error) → ((x : AllocError) → ¬ (e ≡ OutOfMemory x)) → error_fault e ≢ None
states_a_fault (OutOfMemory x) other none = other x refl
states_a_fault _ other none = cc

pub returns-in_default : goal.returns-in_default
returns-in_default c =
    report_of_a_fault (λ text. string_bytes text) (error_fault c.args.e) c.args.file.now c.args.source.now
    c.report.result (states_a_fault c.args.e c.in_default.not-OutOfMemory) c.report.ensures
