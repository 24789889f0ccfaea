-- Maps of variables as look-ups of bytes. Contracts see a map through three ghost members of its trait. `see
-- v` is the value v as contracts see it: for a reference, the value pointed to. `Seen` is the type of `see
-- v`. `look_up name` is `see` of the value under `name`, or `None`.
use Rattle.std.specs.Prelude.{◌≡◌, ℕ, List, Option, is_some}
use Rattle.std.specs.Option.{option_map}
use Rattle.subst_language.specs.Language.LookUp.{LookUp}

-- for each value v, `bytes` maps `see v` to `items v`, the bytes of v
abbrev pub ReadsAs : {Value Seen : Type 0} → (Value → List ℕ) → (Value → Seen) → (Seen → List ℕ) → Type 0
ReadsAs {Value} items see bytes = (v : Value) → items v ≡ bytes (see v)

-- the map's look-up of bytes: `bytes` of what `look_up` has for the name, or `None` if it has nothing
abbrev pub look_up_of : {Seen : Type 0} → (Seen → List ℕ) → (List ℕ → Option Seen) → LookUp
look_up_of bytes look_up name = option_map bytes (look_up name)

-- P holds of the map's look-up of bytes, for each function `bytes` that maps `see v` to the bytes of v for
-- every value v. If there is no such function, this states nothing.
abbrev pub ByLookUp : {Value Seen : Type 0} → (Value → List ℕ) → (Value → Seen) → (List ℕ → Option Seen)
    → (LookUp → Type 0) → Type 0
ByLookUp {Value} {Seen} items see look_up P =
    (bytes : Seen → List ℕ) → ReadsAs items see bytes → P (look_up_of bytes look_up)

-- P holds of each look-up of bytes that has values for the same names as the map. So a P that doesn't depend
-- on the values can be stated even if nothing is known of them.
abbrev pub ByNames : {Seen : Type 0} → (List ℕ → Option Seen) → (LookUp → Type 0) → Type 0
ByNames look_up P =
    (look : LookUp) → ((name : List ℕ) → is_some (look name) ≡ is_some (look_up name)) → P look
