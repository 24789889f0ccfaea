-- The result of a call that reads a text and fills in its values.
use Rattle.std.specs.Prelude.{◌≡◌, ◌≤◌, ⊤, ℕ, List, length, Some, Result, IfErr, IfSome}
use Rattle.subst_error.specs.Fault as substituting
use Rattle.subst_error.specs.ErrorFault.{error_fault}
use Rattle.subst_yaml_reader.specs.Reading.{read}
use Rattle.subst_yaml_reader.specs.declared.event.Event.{Event}
use Rattle.subst_yaml_reader.specs.declared.event.Span.{Span}
use Rattle.subst_yaml.specs.declared.error.Error.{Error}
use Rattle.subst_yaml.specs.declared.error.Error.TheVariants.{Yaml, Subst, OutOfMemory}
use Rattle.subst_yaml.specs.declared.error.Fault.{Fault}

-- the text is read as events, for which P holds
abbrev pub ReadsAs : List ℕ → (List Event → Type 0) → Type 0
ReadsAs text P = (es : List Event) × (read text ≡ Some es) × P es

-- P holds for the fault, if the error is `Yaml`
abbrev if_yaml : Error → (Fault → Type 0) → Type 0
if_yaml (Yaml fault) P = P fault
if_yaml (Subst e) P = ⊤
if_yaml (OutOfMemory e) P = ⊤

abbrev pub IfYaml : {T : Type 0} → Result T Error → (Fault → Type 0) → Type 0
IfYaml result P = IfErr result (λ e. if_yaml e P)

-- the span is in the text
abbrev pub IsInside : Span → (text : List ℕ) → Type 0
IsInside span text = (span.start ≤ span.«end») × (span.«end» ≤ length text)

-- P holds for the fault of the inner error, if the error is `Subst`
abbrev if_subst : Error → (substituting.Fault → Type 0) → Type 0
if_subst (Yaml fault) P = ⊤
if_subst (Subst e) P = IfSome (error_fault e) P
if_subst (OutOfMemory e) P = ⊤

abbrev pub OnSubst : {T : Type 0} → Result T Error → (substituting.Fault → Type 0) → Type 0
OnSubst result P = IfErr result (λ e. if_subst e P)
