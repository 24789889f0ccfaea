-- The names so far are the earlier ones, and those of the variables so far.
use Rattle.std.proofs.Common.{◌≡◌, fold, map, string_bytes, take}
use Rattle.subst_language.specs.Calls.Variables.{variable_of}
use Rattle.subst_language.specs.Language.Variables.{name_of}
use Rattle.subst_c.specs.DocumentNames.{KnowsNames, with_name}
use Rattle.subst_c.proofs.document.by_names.add_names.Given as goal

abbrev pub invariant-loop-variable : goal.invariant-loop-variable
invariant-loop-variable l = KnowsNames l.known (map string_bytes l.names.items) × (map string_bytes l.names.items
    ≡ fold with_name (map string_bytes l.fn.names.items)
    (map name_of (map variable_of (take l.variable-index l.variable-items))))
