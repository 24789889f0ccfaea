-- The arguments of a command line, and their variables as a look-up and as a map.
use denote.Ref.{Bor}
use Rattle.std.specs.Prelude.{ℕ, ◌==◌, Bool, ◌&&◌, List, reverse, find, String, string_bytes}
use Rattle.std.specs.Global.{Global}
use Rattle.std.specs.HashMap.{HashMap}
use Rattle.std.specs.List.{before_first, after_first, list_any, list_all}
use Rattle.std.specs.Option.{option_map}
use Rattle.std.specs.Str.{bytes_eq}
use Rattle.subst.specs.Calls.Maps.{hash_get_by_borrowed_text}
use Rattle.subst.specs.Language.LookUp.{LookUp}

-- the byte `=`, which separates a name from its value
abbrev pub equals_sign : ℕ
equals_sign = 61

-- the byte is `=`
abbrev pub is_equals_sign : ℕ → Bool
is_equals_sign b = b == equals_sign

-- the argument has the form NAME=VALUE
abbrev pub is_pair : List ℕ → Bool
is_pair argument = list_any is_equals_sign argument

-- the name in an argument NAME=VALUE: its bytes before the first `=`
abbrev pub name_in : List ℕ → List ℕ
name_in argument = before_first is_equals_sign argument

-- the value in an argument NAME=VALUE: its bytes after the first `=`
abbrev pub value_in : List ℕ → List ℕ
value_in argument = after_first is_equals_sign argument

-- the argument has the form NAME=VALUE, with the name `name`
abbrev pub sets_name : List ℕ → List ℕ → Bool
sets_name name argument = is_pair argument && bytes_eq name (name_in argument)

-- all arguments have the form NAME=VALUE
abbrev pub are_pairs : List (String Global) → Bool
are_pairs arguments = list_all (λ argument. is_pair (string_bytes argument)) arguments

-- the value of each name in the arguments: the value in the last argument that sets the name
abbrev pub last_value : List (String Global) → LookUp
last_value arguments name =
    option_map (λ argument. value_in (string_bytes argument))
    (find (λ argument. sets_name name (string_bytes argument)) (reverse arguments))

-- the bytes of the value of each name in a map of borrowed texts
abbrev pub value_under : {S : Type 0} → HashMap (Bor (List ℕ)) (Bor (List ℕ)) S → LookUp
value_under values name = option_map (λ value. value.now) (hash_get_by_borrowed_text values name)
