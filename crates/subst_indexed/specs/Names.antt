-- The distinct names of a template, in the order of first use.
use denote.Ref.{Bor}
use Rattle.std.specs.Prelude.{◌≡◌, ◌≢◌, ℕ, ◌+◌, ◌-◌, ◌*◌, ◌%◌, List, [], ◌∷◌, ◌++◌, map, length, slice_get, slice_index, Option, Some}
use Rattle.std.specs.BTreeMap.{BTreeMap}
use Rattle.std.specs.List.{AllByRecursion}
use Rattle.subst_language.specs.Maps.{btree_get_by_borrowed_text}
use Rattle.subst_indexed.specs.Numbering.{FirstUse, IsUseIn, number_of}
use Rattle.subst_indexed.specs.declared.names.Name.{Name}

-- the bytes of the names
abbrev pub name_bytes : List Name → List (List ℕ)
name_bytes names = map (λ name. name.bytes.now) names

-- a name as the first use of it
abbrev pub use_of : Name → FirstUse
use_of name = record { position = name.start; name = name.bytes.now }

-- the names as first uses
abbrev pub uses_of : List Name → List FirstUse
uses_of names = map use_of names

-- each name with a number keeps it
abbrev pub KeepsNumbers : (old new : List (List ℕ)) → Type 0
KeepsNumbers old new = (name : List ℕ) (number : ℕ) → number_of old name ≡ Some number
    → number_of new name ≡ Some number

-- each name is in the source s from its first use on
abbrev pub AllNamed : List ℕ → List Name → Type 0
AllNamed s names = AllByRecursion (λ name. IsUseIn s (use_of name)) names

-- the bucket of a name: a number below 64, by its length, its first byte and its last two
abbrev pub bucket_of : List ℕ → ℕ
bucket_of name =
    (length name + slice_index name 0 + 5 * slice_index name (length name - 2)
    + 11 * slice_index name (length name - 1)) % 64

-- the number of each name is its index
abbrev pub AreDistinct : List (List ℕ) → Type 0
AreDistinct names = (index : ℕ) (name : List ℕ) → slice_get names index ≡ Some name
    → number_of names name ≡ Some index

-- the bucket of each name is marked: it isn't 0
abbrev pub AreMarked : List (List ℕ) → (buckets : List ℕ) → Type 0
AreMarked names buckets = (index : ℕ) (name : List ℕ) → slice_get names index ≡ Some name
    → slice_index buckets (bucket_of name) ≢ 0

-- the number of a name in a map
abbrev pub number_in : BTreeMap (Bor (List ℕ)) ℕ → List ℕ → Option ℕ
number_in map name = btree_get_by_borrowed_text map name

-- the map has the number of each name, and has no other names
abbrev pub HasNumbers : BTreeMap (Bor (List ℕ)) ℕ → List (List ℕ) → Type 0
HasNumbers map names = (name : List ℕ) → number_in map name ≡ number_of names name

-- one name was added, with these bytes
abbrev pub AddsName : (start : ℕ) → (bytes : List ℕ) → (old new : List Name) → Type 0
AddsName start bytes old new =
    (added : Name) × (new ≡ old ++ added ∷ []) × (added.start ≡ start) × (added.bytes.now ≡ bytes)
