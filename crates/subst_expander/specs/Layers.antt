-- The variables of a run, as a list of entries in which the first entry of a name wins.
use Rattle.std.specs.Prelude.{◌≡◌, ◌==◌, ℕ, Bool, false, ◌&&◌, ◌||◌, List, [], ◌∷◌, ◌++◌, map, reverse, find, filter_map, flat_map, length, Option, Some, None, is_some, is_none, option_map, IsTrue, String, string_bytes, if◌then◌else◌}
use Rattle.std.specs.Borrow.{Bor}
use Rattle.std.specs.Global.{Global}
use Rattle.std.specs.List.{list_all}
use Rattle.std.specs.Option.{option_flatten, option_map_or}
use Rattle.std.specs.Str.{bytes_eq, is_utf8}
use Rattle.json.specs.Print.{escape}
use Rattle.subst.specs.Language.LookUp.{LookUp}
use Rattle.subst_language.specs.Language.Name.{is_name_byte}
use Rattle.subst_filter_lib.specs.Arguments.{is_pair, name_in, value_in, value_under}
use Rattle.subst_expander.specs.declared.entry.Entry as owned
use Rattle.subst_expander.specs.declared.layers.Variables.{Variables}
use Rattle.subst_expander.specs.declared.kinds.Escape.{Escape}
use Rattle.subst_expander.specs.declared.kinds.Escape.TheVariants.{Nothing, Json, Sh}

-- a name and its value, or no value if the value's bytes aren't UTF-8
pub record Entry : Type 0 where
  pub name : List ℕ
  pub value : Option (List ℕ)

-- an entry of the code, as an `Entry`
abbrev pub entry_of : owned.Entry → Entry
entry_of entry = record { name = string_bytes entry.name; value = option_map string_bytes entry.value }

-- a list of the code's entries, as a list of `Entry`
abbrev pub entries_of : List owned.Entry → List Entry
entries_of entries = map entry_of entries

-- the value of a name's first entry, if the name has an entry
abbrev pub entry_value : List Entry → List ℕ → Option (Option (List ℕ))
entry_value entries name = option_map (λ entry. entry.value) (find (λ entry. bytes_eq name entry.name) entries)

-- the value of a name's first entry, if it is UTF-8
abbrev pub look_up_in : List Entry → LookUp
look_up_in entries name = option_flatten (entry_value entries name)

-- the value of the name's first entry isn't UTF-8
abbrev pub is_unreadable : List Entry → List ℕ → Bool
is_unreadable entries name = option_map_or is_none (entry_value entries name) false

-- the value of the name's first entry isn't UTF-8, as a type
abbrev pub IsUnreadable : List Entry → List ℕ → Type 0
IsUnreadable entries name = IsTrue (is_unreadable entries name)

-- the look-up has a value for the name, or the name is `unreadable`: its value isn't UTF-8
abbrev pub IsKnown : LookUp → (List ℕ → Bool) → List ℕ → Type 0
IsKnown look unreadable name = IsTrue (is_some (look name) || unreadable name)

-- the name is a variable name: one or more ASCII letters, digits or underscores
abbrev pub is_spelled : List ℕ → Bool
is_spelled [] = false
is_spelled (b ∷ name) = list_all is_name_byte (b ∷ name)

-- bytes as a value, or none if they aren't UTF-8
abbrev pub text_in : List ℕ → Option (List ℕ)
text_in bytes = if is_utf8 bytes then Some bytes else None

-- the entry of NAME=VALUE, split at its first `=`, if the name is a variable name
abbrev pub entry_in : List ℕ → Option Entry
entry_in bytes =
    if is_pair bytes && is_spelled (name_in bytes)
    then Some (record { name = name_in bytes; value = text_in (value_in bytes) })
    else None

-- the entries of an environment that have variable names, in order
abbrev pub environment_of : List (List ℕ) → List Entry
environment_of entries = filter_map entry_in entries

-- the entries of options, in order; each pair is the name and the value of an entry
abbrev pub entries_of_pairs : List (String Global × String Global) → List Entry
entries_of_pairs pairs =
    map (λ pair. record { name = string_bytes pair.0; value = Some (string_bytes pair.1) }) pairs

-- The entries of higher precedence than .env files, the highest first: those of options (`set`), of values
-- files (`lines`), and of the environment. Both `set` and `lines` are reversed, so that their last entries
-- come first.
abbrev pub above : (set lines environment : List Entry) → List Entry
above set lines environment = reverse (lines ++ set) ++ environment

-- All entries, the highest precedence first: the entries `above`, then those of .env files, then the
-- defaults. The entries of .env files and the defaults are in reverse order.
abbrev pub in_order : (above dotenv defaults : List Entry) → List Entry
in_order above dotenv defaults = above ++ reverse dotenv ++ reverse defaults

-- the value of the entry is empty
abbrev pub is_empty : Entry → Bool
is_empty entry = option_map_or (λ value. length value == 0) entry.value false

-- the spelling of a byte in a shell's word in single quotes; a single quote is escaped outside the quotes,
-- which end before it and begin again after it
abbrev pub word_byte : ℕ → List ℕ
word_byte b = if b == 39 then 39 ∷ 92 ∷ 39 ∷ 39 ∷ [] else b ∷ []

-- the text as one word of a shell, in single quotes
abbrev pub word : List ℕ → List ℕ
word text = 39 ∷ flat_map word_byte text ++ 39 ∷ []

-- the text, escaped for a language; for JSON, without the quotes around a string
abbrev pub escaped_by : Escape → List ℕ → List ℕ
escaped_by Nothing text = text
escaped_by Json text = escape text
escaped_by Sh text = word text

-- the entry with its value escaped
abbrev pub escaped : Escape → Entry → Entry
escaped kind entry = record { name = entry.name; value = option_map (escaped_by kind) entry.value }

-- the value of this name in the variables isn't UTF-8
abbrev pub has_unreadable : Variables → List ℕ → Bool
has_unreadable variables name = is_some (value_under variables.unreadable name)

-- there are variables, and the name is set in them
abbrev pub IsKnownBy : Option (Bor Variables) → List ℕ → Type 0
IsKnownBy None name = ⊥
IsKnownBy (Some variables) name =
    IsKnown (value_under variables.now.values) (has_unreadable variables.now) name

-- `variables` are the variables of `entries`: each name has the value of its first entry
pub record AreVariablesOf (variables : Variables) (entries : List Entry) : Type 0 where
  pub values : value_under variables.values ≡ look_up_in entries
  pub unreadable : has_unreadable variables ≡ is_unreadable entries

-- `IsSo` holds for all lists of entries that have these variables
abbrev pub ForEntries : Variables → (List Entry → Type 0) → Type 0
ForEntries variables IsSo = (entries : List Entry) → AreVariablesOf variables entries → IsSo entries
