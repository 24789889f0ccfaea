-- An error that isn't out of memory has a fault.
use Rattle.std.proofs.Common.{◌≡◌, ◌≢◌, None, refl}
use Rattle.std.specs.declared.alloc.AllocError.{AllocError}
use Rattle.subst.specs.ErrorFault.{parse_fault}
use Rattle.subst.specs.Errors.{ParseError}
use Rattle.subst.specs.Errors.parsing
use Rattle.subst_expander.proofs.part.no_faults.Goals as goal

-- an error that isn't out of memory has a fault
states_a_fault : (e : ParseError) → ((x : AllocError) → ¬ (e ≡ parsing.OutOfMemory x)) → parse_fault e ≢ None
states_a_fault (parsing.OutOfMemory x) other none = other x refl
states_a_fault _ other none = absurd cc

pub returns-clause-wrong : goal.returns-clause-wrong
returns-clause-wrong c = states_a_fault c.args.e c.in_default.not-OutOfMemory
