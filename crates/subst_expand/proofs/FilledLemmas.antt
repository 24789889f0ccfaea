-- Bytes in place of marks.
use Rattle.std.proofs.Common.{◌≡◌, ℕ, Option, Some, None, List, [], ◌∷◌, ◌++◌, append_assoc, sym, ap}
use Rattle.std.specs.Option.{option_map}
use Rattle.subst_expand.specs.Filled.{mark, marks_of, IsFilled}
use Rattle.subst_expand.specs.Filled.IsFilled.{empty, kept, filled}

-- a text with no mark replaced
pub all_kept : {Passes : List ℕ → Type 0} (x : List ℕ) → IsFilled Passes x x
all_kept [] = empty
all_kept (b ∷ x) = kept b (all_kept x)

-- two texts concatenated
pub filled_append : {Passes : List ℕ → Type 0} {x y z w : List ℕ} → IsFilled Passes x y → IsFilled Passes z w
    → IsFilled Passes (x ++ z) (y ++ w)
filled_append empty more = more
filled_append (kept b some) more = kept b (filled_append some more)
filled_append (filled v passes some) more = rw append_assoc (filled v passes (filled_append some more))

-- if a map has a value for a name, the look-up of marks has a mark
pub has_mark : {Seen : Type 0} (look_up : List ℕ → Option Seen) {key : List ℕ} {v : Seen}
    → Some v ≡ look_up key
    → marks_of look_up key ≡ Some (mark ∷ [])
has_mark look_up has = ap (option_map (λ _. mark ∷ [])) (sym has)

-- if it has none, neither has the look-up
pub has_no_mark : {Seen : Type 0} (look_up : List ℕ → Option Seen) {key : List ℕ} → None ≡ look_up key
    → marks_of look_up key ≡ None
has_no_mark look_up has = ap (option_map (λ _. mark ∷ [])) (sym has)
