-- The variables of a command line whose arguments are templates.
use Rattle.std.specs.Prelude.{String, string_bytes}
use Rattle.std.specs.Option.{option_map}
use Rattle.std.specs.BTreeMap.{BTreeMap, get_by_text}
use Rattle.subst.specs.Language.LookUp.{LookUp}

-- the bytes of the text that a map has for a name
abbrev pub texts_of : {X : Type 0} → BTreeMap (String X) (String X) → LookUp
texts_of variables name = option_map (λ v. string_bytes v) (get_by_text variables name)
