-- Changes of the values in a tree.
use Rattle.std.specs.Prelude.{◌≡◌, ⊤, ℕ, suc, Bool, true, false, List, [], ◌∷◌, ◌++◌, replicate, string_bytes}
use Rattle.std.specs.Vec.Iter.{into_iter_items}
use Rattle.subst_document.specs.declared.changes.Change.{Change, Kept, Text, Inside', out-Change}
use Rattle.subst_document.specs.declared.changes.Change.TheOpen.{Change-F}
use Rattle.subst_document.specs.declared.changes.FoundChanges.{FoundChanges}
use Rattle.subst_document.specs.declared.changes.RemainingChanges.{RemainingChanges}

-- whether a change isn't `Kept`, so that the value changes
abbrev pub is_other : Change → Bool
is_other (Kept n) = false
is_other (Text x) = true
is_other (Inside' shape all) = true

-- a change, limited to the first of its values: `Kept n`, which is for one value and n more after it, becomes
-- `Kept 0`
abbrev pub one : Change → Change
one (Kept n) = Kept 0
one (Text x) = Text x
one (Inside' shape all) = Inside' shape all

-- a change, split into one change for each value, since `Kept n` is for one value and n more after it;
-- `slots` splits the changes of a list
abbrev pub slots_of : Change → List Change
slots_of (Kept n) = replicate (suc n) (Kept 0)
slots_of (Text x) = Text x ∷ []
slots_of (Inside' shape all) = Inside' shape all ∷ []

abbrev pub slots : List Change → List Change
slots [] = []
slots (change ∷ changes) = slots_of change ++ slots changes

-- the string s after a change: replaced if the change is `Text`, and otherwise unchanged
abbrev pub text_after : List ℕ → Change → List ℕ
text_after s (Kept n) = s
text_after s (Text x) = string_bytes x
text_after s (Inside' shape all) = s

-- the changes that `Inside` has for the values inside an array, object or table, one for each; any other
-- change has none
abbrev inside_step : Change-F Change → List Change
inside_step (Change-F.Kept n) = []
inside_step (Change-F.Text x) = []
inside_step (Change-F.Inside v) = slots v.items

abbrev pub inside : Change → List Change
inside (Kept n) = []
inside (Text x) = []
inside (Inside' shape all) = inside_step (out-Change (Inside' shape all))

-- the next change of a list, or `Kept 0` if none is left; `rest_of` has the changes after it
abbrev pub next_of : List Change → Change
next_of [] = Kept 0
next_of (change ∷ changes) = change

abbrev pub rest_of : List Change → List Change
rest_of [] = []
rest_of (change ∷ changes) = changes

-- The changes of a list, made in order, turn the first list of values into the second. `Made` relates a
-- value, its change and the value after the change.
abbrev pub AreMade : {T : Type 0} → (T → Change → T → Type 0) → List T → List Change → List T → Type 0
AreMade Made [] changes [] = ⊤
AreMade Made (v ∷ vs) changes (w ∷ ws) =
    Made v (next_of changes) w × AreMade Made vs (rest_of changes) ws
AreMade Made _ changes _ = ⊥

-- `all` is `changes` followed by any number of `Kept 0`
abbrev pub IsUpToKept : List Change → List Change → Type 0
IsUpToKept changes all = (n : ℕ) × (all ≡ changes ++ replicate n (Kept 0))

-- whether the changes found so far change some value; `changes` is empty until a value changes
abbrev any_other : List Change → Bool
any_other [] = false
any_other (change ∷ changes) = true

abbrev pub has_other : FoundChanges → Bool
has_other found = any_other found.changes.items

-- the changes, one for each value, that a walk has found so far; `remaining_of` has those that a second walk
-- has yet to make
abbrev pub found_so_far : FoundChanges → List Change
found_so_far found = slots found.changes.items ++ replicate found.kept (Kept 0)

abbrev pub remaining_of : RemainingChanges → List Change
remaining_of it = replicate it.kept (Kept 0) ++ slots (into_iter_items it.changes)
