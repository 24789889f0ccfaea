-- The reasons why an expansion of a parsed source stops.
use Rattle.std.specs.Prelude.{ℕ, List, Option, Some, None}
use Rattle.subst_error.specs.Fault.{Fault, NoSuchVariable}
use Rattle.subst_language.specs.Language.Name.{IsName}
use Rattle.subst_language.specs.Parts.Span.{IsSpan, span_bytes}
use Rattle.subst_indexed.specs.declared.walk.Stop.{Stop}
use Rattle.subst_indexed.specs.declared.walk.Stop.TheVariants.{Full, Missing, Asks, NotATemplate}

-- the output is too small, or a variable is missing whose name is in the source s
abbrev pub IsNamedStop : List ℕ → Stop → Type 0
IsNamedStop s (Full e) = Unit {0}
IsNamedStop s (Missing name) = IsSpan s name × IsName (span_bytes name s)
IsNamedStop s (Asks number) = ⊥
IsNamedStop s NotATemplate = ⊥

-- the fault for which an expansion of the source s stopped, or `None` if it has none
abbrev pub stop_fault : List ℕ → Stop → Option Fault
stop_fault s (Missing name) = Some (NoSuchVariable name.start (span_bytes name s))
stop_fault s stop = None
