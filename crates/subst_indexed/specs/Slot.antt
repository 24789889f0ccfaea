-- Values as far as they are known: any value is possible until it has been asked for.
use denote.Ref.{Bor}
use Rattle.std.specs.Option.{option_and_then, option_map}
use Rattle.std.specs.Prelude.{◌≡◌, ℕ, List, Option, Some, None, IfSome, slice_get}
use Rattle.subst_indexed.specs.Expansion.{Values}
use Rattle.subst_indexed.specs.declared.slot.Slot.{Slot}
use Rattle.subst_indexed.specs.declared.slot.Slot.TheVariants.{Unasked, Unset, Set}

-- the value in a slot, which is `None` for no value; or `None` if it hasn't been asked for
abbrev pub slot_value : Slot → Option (Option (List ℕ))
slot_value Unasked = None
slot_value Unset = Some None
slot_value (Set bytes) = Some (Some bytes.now)

-- the known part of a slot that may be missing: past the end of a list, there are no values
abbrev pub known_in : {V : Type 0} → (V → Option (Option (List ℕ))) → Option V → Option (Option (List ℕ))
known_in known (Some v) = known v
known_in known None = Some None

-- the known part of the value with this number
abbrev pub known_at : {V : Type 0} → (V → Option (Option (List ℕ))) → List V → ℕ → Option (Option (List ℕ))
known_at known slots number = known_in known (slice_get slots number)

-- the values agree with the known parts of all slots
abbrev pub Agree : {V : Type 0} → (V → Option (Option (List ℕ))) → List V → Values → Type 0
Agree known slots values = (number : ℕ) → IfSome (known_at known slots number) (λ value. values number ≡ value)

-- the values of a list by number: past its end there are none
abbrev pub values_of : List (Option (Bor (List ℕ))) → Values
values_of list number = option_and_then (λ value. option_map (λ bytes. bytes.now) value) (slice_get list number)
