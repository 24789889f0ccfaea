-- Lemmas on arguments, and on the look-up of their variables.
use Rattle.std.proofs.Common.{◌≡◌, ℕ, ◌+◌, ◌<◌, Bool, true, false, List, [], ◌∷◌, ◌++◌, if◌then◌else◌, get_or, length, take, Option, Some, None, MatchOption, IfSome, is_some, String, string_bytes, refl, sym, subst, arith}
use Rattle.std.proofs.lemmas.Grind.{common_steps}
use Rattle.std.proofs.lemmas.List.{take_more}
use Rattle.std.specs.Global.{Global}
use Rattle.std.specs.List.{list_any, position_or_len}
use Rattle.std.specs.Option.{option_or}
use Rattle.std.specs.Str.{bytes_eq}
use Rattle.subst.specs.Calls.Maps.{first_value}
use Rattle.subst.specs.Language.LookUp.{LookUp}

-- if the first byte that passes the test is before the end, some byte passes
passes_before_end : (p : ℕ → Bool) (bytes : List ℕ) → position_or_len p bytes < length bytes
    → list_any p bytes ≡ true
passes_before_end p [] below = grind (arith, common_steps)
passes_before_end p (b ∷ bytes) below = grind (arith, common_steps, passes_before_end p bytes)

-- if no byte before the end passes the test, none does
passes_none : (p : ℕ → Bool) (bytes : List ℕ) → position_or_len p bytes ≡ length bytes
    → list_any p bytes ≡ false
passes_none p [] at_end = refl
passes_none p (b ∷ bytes) at_end = grind (arith, common_steps, passes_none p bytes)

-- an option is `Some` if and only if some byte passes the test
pub is_some_if_passes : {X : Type 0} (P Q : X → Type 0) (p : ℕ → Bool) (bytes : List ℕ) (r : Option X)
    → MatchOption r (position_or_len p bytes ≡ length bytes)
    (λ x. (position_or_len p bytes < length bytes) × P x × Q x)
    → is_some r ≡ list_any p bytes
is_some_if_passes P Q p bytes None h = sym (passes_none p bytes h)
is_some_if_passes P Q p bytes (Some x) h = sym (passes_before_end p bytes h.0)

-- a property of a look-up holds for an equal look-up
pub holds_by : (P : List ℕ → LookUp → Type 0) (left : Option (List ℕ)) (look given : LookUp) → look ≡ given
    → IfSome left (λ source. P source look) → IfSome left (λ source. P source given)
holds_by P left look given same h = subst (λ other. IfSome left (λ source. P source other)) same h

-- with a pair appended, a name has its earlier value, or else that of the pair
first_value-append : (pairs : List (String Global × String Global)) (pair : String Global × String Global)
    (name : List ℕ) → first_value (pairs ++ pair ∷ []) name ≡ option_or (first_value pairs name)
    (if bytes_eq name (string_bytes pair.0) then Some (string_bytes pair.1) else None)
first_value-append [] pair name = grind (arith, common_steps)
first_value-append (first ∷ pairs) pair name =
    grind (arith, common_steps, first_value-append pairs pair name)

-- with the pair at an index, a name has its earlier value, or else that of the pair
pub first_value-take : (pairs : List (String Global × String Global)) (at : ℕ)
    (pair : String Global × String Global) (name : List ℕ) → at < length pairs → pair ≡ get_or pairs at pair
    → first_value (take (at + 1) pairs) name ≡ option_or (first_value (take at pairs) name)
    (if bytes_eq name (string_bytes pair.0) then Some (string_bytes pair.1) else None)
first_value-take pairs at pair name below is =
    let longer = subst (λ x. take (at + 1) pairs ≡ take at pairs ++ x ∷ []) (sym is)
    (take_more pairs at pair below) in
    rw longer (first_value-append (take at pairs) pair name)

-- a property of a value holds for an option with this value
pub holds_of_value : {X : Type 0} (P : X → Type 0) (o : Option X) (x : X) → Some x ≡ o → P x → IfSome o P
holds_of_value P o x same h = subst (λ other. IfSome other P) same h
