-- The look-ups of the library's maps: the value of the key whose text is the name. For owned keys this is the
-- standard library's `get_by_text`. In contracts an `IndexMap` is a `HashMap`, and an `Env` the list of its
-- pairs.
use denote.Ref.{Bor}
use Rattle.std.proofs.Common.{inl, inr}
use Rattle.std.specs.Prelude.{◌≡◌, ◌⊎◌, ◌==◌, ℕ, List, length, Option, Some, None, String, string_bytes, find, option_and_then, if◌then◌else◌}
use Rattle.std.specs.BTreeMap.{BTreeMap, get_by as btree_get_by}
use Rattle.std.specs.Cmp.Lexicographic.{slice_cmp}
use Rattle.std.specs.HashMap.{HashMap, get_by as hash_get_by}
use Rattle.std.specs.Option.{option_map, option_or}
use Rattle.std.specs.Ordering.{nat_cmp}
use Rattle.std.specs.Str.{bytes_eq}
use Rattle.subst_language.specs.Calls.VariableMap.{ReadsAs, look_up_of}
use Rattle.subst_language.specs.Language.LookUp.{LookUp}
use Rattle.subst_language.specs.declared.maps.layered.OneOf.{OneOf}
use Rattle.subst_language.specs.declared.maps.layered.OneOf.TheVariants.{First, Second}

-- the value of the first pair with the name; `name_of` and `value_of` are the name and the value of a pair
abbrev pub first_value_by : {P : Type 0} → (P → List ℕ) → (P → List ℕ) → List P → LookUp
first_value_by name_of value_of pairs name =
    option_map value_of (find (λ pair. bytes_eq name (name_of pair)) pairs)

-- the value of the first pair with the name, in a list of pairs of owned texts
abbrev pub first_value : {X : Type 0} → List (String X × String X) → LookUp
first_value pairs = first_value_by (λ pair. string_bytes pair.0) (λ pair. string_bytes pair.1) pairs

-- the value of a `BTreeMap` under the borrowed key whose bytes are the name
abbrev pub btree_get_by_borrowed_text : {V : Type 0} → BTreeMap (Bor (List ℕ)) V → List ℕ → Option V
btree_get_by_borrowed_text map name = btree_get_by (λ key. slice_cmp nat_cmp name key.now) map

-- the value of a `HashMap` or an `IndexMap` under the borrowed key whose bytes are the name
abbrev pub hash_get_by_borrowed_text : {V S : Type 0} → HashMap (Bor (List ℕ)) V S → List ℕ → Option V
hash_get_by_borrowed_text map name = hash_get_by (λ key. bytes_eq name key.now) map

-- `first` applied to the value in a `First`, or `second` applied to the value in a `Second`
abbrev pub of_one : {A B C : Type 0} → (A → C) → (B → C) → OneOf A B → C
of_one first second (First a) = first a
of_one first second (Second b) = second b

-- the value that the first look-up has for the name, or else that of the second
abbrev pub layered : {S T : Type 0} → (List ℕ → Option S) → (List ℕ → Option T) → List ℕ → Option (S ⊎ T)
layered first second name =
    option_or (option_map (λ s. inl s) (first name)) (option_map (λ t. inr t) (second name))

-- the look-up `look`, but `None` for each name whose value is empty
abbrev pub without_empty : LookUp → LookUp
without_empty look name =
    option_and_then (λ bytes. (if length bytes == 0 then None else Some bytes)) (look name)

-- There is a function `bytes` from values, as contracts see them, to their bytes. For each value v, it maps
-- `see v`, which v is identified with, to `items v`, the bytes of v. For each map and name, `look_up_bytes`
-- has `bytes` of the value from `look_up`, or `None` if there is none.
abbrev pub AreReadAs : {Map Value Seen : Type 0} → (Value → List ℕ) → (Value → Seen)
    → (Map → List ℕ → Option Seen) → (Map → LookUp) → Type 0
AreReadAs {Map} {Value} {Seen} items see look_up look_up_bytes = (bytes : Seen → List ℕ)
    × ReadsAs items see bytes
    × ((map : Map) (name : List ℕ) → look_up_bytes map name ≡ look_up_of bytes (look_up map) name)
