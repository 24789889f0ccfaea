-- Errors of calls that fill in YAML: how they are made from errors of the reader or of a substitution, and
-- how they are displayed.
use Rattle.std.specs.Prelude.{◌≡◌, ⊤, ℕ, List, ◌++◌, Option, Some, None, codes, IsSome}
use Rattle.std.specs.Fmt.{decimal}
use Rattle.subst_error.specs.Display.{display_of_error}
use Rattle.subst_error.specs.ErrorFault.{error_fault}
use Rattle.subst_error.specs.declared.Error as substituting
use Rattle.subst_yaml_reader.specs.Display as reader
use Rattle.subst_yaml_reader.specs.declared.error.Error as reading
use Rattle.subst_yaml.specs.declared.error.Error.{Error}
use Rattle.subst_yaml.specs.declared.error.Error.TheVariants.{Yaml, Subst, OutOfMemory}
use Rattle.subst_yaml.specs.declared.error.Fault.{Fault}
use Rattle.subst_yaml.specs.declared.error.Reason.{Reason}
use Rattle.subst_yaml.specs.declared.error.Reason.TheVariants.{InvalidUtf8, Reader}

-- the error is `Yaml` of the reader's refusal, or `OutOfMemory` if the reader failed to allocate
abbrev pub IsOfReader : reading.Error → Error → Type 0
IsOfReader (reading.TheVariants.Refused fault) error = error ≡ Yaml (record {
  reason = Reader fault.reason;
  span = fault.span;
  line = fault.line;
})
IsOfReader reading.TheVariants.OutOfMemory (Yaml d) = ⊥
IsOfReader reading.TheVariants.OutOfMemory (Subst d) = ⊥
IsOfReader reading.TheVariants.OutOfMemory (OutOfMemory d) = ⊤

-- the error is `Subst` of the substitution's error e, or `OutOfMemory` if e is a failure to allocate
abbrev pub IsOfSubstitution : substituting.Error → Error → Type 0
IsOfSubstitution e (Yaml d) = ⊥
IsOfSubstitution e (Subst d) = (d ≡ e) × IsSome (error_fault e)
IsOfSubstitution e (OutOfMemory d) = error_fault e ≡ None

-- a failure to allocate is the case `OutOfMemory`, and never the inner error of `Subst`
abbrev pub HasOwnMemory : Error → Type 0
HasOwnMemory (Yaml e) = ⊤
HasOwnMemory (Subst e) = IsSome (error_fault e)
HasOwnMemory (OutOfMemory e) = ⊤

-- the text of a reason
abbrev pub display_of_reason : Reason → List ℕ
display_of_reason InvalidUtf8 = codes "a text that isn't UTF-8"
display_of_reason (Reader reason) = reader.display_of_reason reason

-- the text of a fault: its line and its reason
abbrev pub display_of_fault : Fault → List ℕ
display_of_fault fault = codes "line " ++ (decimal fault.line ++ (codes ": " ++ display_of_reason fault.reason))

-- the text of an error, or `None` if the text quotes a character that isn't ASCII
abbrev pub display_of_yaml : Error → Option (List ℕ)
display_of_yaml (Yaml fault) = Some (display_of_fault fault)
display_of_yaml (Subst e) = display_of_error (error_fault e)
display_of_yaml (OutOfMemory e) = Some (codes "out of memory")

-- P holds for the inner error, if the error is `Subst`
abbrev pub IfSubst : Error → (substituting.Error → Type 0) → Type 0
IfSubst (Yaml e) P = ⊤
IfSubst (Subst e) P = P e
IfSubst (OutOfMemory e) P = ⊤
