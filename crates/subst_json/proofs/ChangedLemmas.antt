-- Trees whose values change, item by item and member by member.
use Rattle.std.proofs.Common.{◌≡◌, ℕ, List, [], ◌∷◌, String, Global, BTreeMap, Vec, refl, sym, ap, ◌∙◌, subst}
use Rattle.std.specs.Map.{keys_of, values_of}
use Rattle.serde_json.specs.Data.{Data, null, boolean, number, string, array, object}
use Rattle.serde_json.specs.View.{view, items_view, members_view}
use Rattle.serde_json.specs.declared.value.Value.{Value, Object}
use Rattle.serde_json.proofs.Views.{Entry, view-Object}
use Rattle.subst_document.specs.Changes.{slots, one, AreMade}
use Rattle.subst_document.specs.declared.changes.Change.{Change, Kept, Text, Inside, Inside'}
use Rattle.subst_document.proofs.ChangeLemmas.{inside-Inside}
use Rattle.subst_json.specs.Changed.{changed, with_items, with_members}
use Rattle.subst_json.specs.Mapped.{IsEach, AreEach, HasEachMember}

-- a kept value is unchanged
pub changed-Kept : (d : Data) (n : ℕ) → changed d (Kept n) ≡ d
changed-Kept (string s) n = refl
changed-Kept (array ds) n = refl
changed-Kept (object ms) n = refl
changed-Kept null n = refl
changed-Kept (boolean b) n = refl
changed-Kept (number m) n = refl

-- a change in a list of its own is the same change
pub changed-one : (d : Data) (change : Change) → changed d (one change) ≡ changed d change
changed-one d (Kept n) = changed-Kept d 0 ∙ sym (changed-Kept d n)
changed-one d (Text x) = refl
changed-one d (Inside' shape all) = refl

-- the value after a change
abbrev pub IsMade : Value → Change → Value → Type 0
IsMade v change w = view w ≡ changed (view v) change

-- each string of a value becomes the string after the change
abbrev pub GivesEach : (List ℕ → List ℕ → Type 0) → Value → Change → Value → Type 0
GivesEach Becomes v change w = IsEach Becomes (view v) (changed (view v) change)

pub items_made : (vs ws : List Value) (changes : List Change) → AreMade IsMade vs changes ws
    → items_view ws ≡ with_items (items_view vs) changes
items_made [] [] [] h = refl
items_made [] [] (change ∷ changes) h = refl
items_made [] (w ∷ ws) changes h = absurd h
items_made (v ∷ vs) [] changes h = absurd h
items_made (v ∷ vs) (w ∷ ws) [] h =
    let first : view w ≡ view v = h.0 ∙ changed-Kept (view v) 0 in
    let rest = items_made vs ws [] h.1 in cc
items_made (v ∷ vs) (w ∷ ws) (change ∷ changes) h =
    let first = h.0 in
    let rest = items_made vs ws changes h.1 in cc

pub members_made : (es fs : List Entry) (changes : List Change) → keys_of fs ≡ keys_of es
    → AreMade IsMade (values_of es) changes (values_of fs)
    → members_view fs ≡ with_members (members_view es) changes
members_made [] [] [] same h = refl
members_made [] [] (change ∷ changes) same h = refl
members_made [] (f ∷ fs) changes same h = absurd h
members_made (e ∷ es) [] changes same h = absurd h
members_made (e ∷ es) (f ∷ fs) [] same h =
    let all : f.0 ∷ keys_of fs ≡ e.0 ∷ keys_of es = same in
    let key : f.0 ≡ e.0 = cc in
    let others : keys_of fs ≡ keys_of es = cc in
    let first : view f.1 ≡ view e.1 = h.0 ∙ changed-Kept (view e.1) 0 in
    let rest = members_made es fs [] others h.1 in cc
members_made (e ∷ es) (f ∷ fs) (change ∷ changes) same h =
    let all : f.0 ∷ keys_of fs ≡ e.0 ∷ keys_of es = same in
    let key : f.0 ≡ e.0 = cc in
    let others : keys_of fs ≡ keys_of es = cc in
    let first : view f.1 ≡ changed (view e.1) change = h.0 in
    let rest = members_made es fs changes others h.1 in cc

-- the members of an object change
pub object_made : (m n : BTreeMap (String Global) Value) (v : Vec Change Global)
    → members_view n.entries ≡ with_members (members_view m.entries) (slots v.items)
    → view (Object n) ≡ changed (view (Object m)) (Inside v)
object_made m n v h =
    view-Object n ∙ ap object (h ∙ ap (with_members (members_view m.entries)) (sym (inside-Inside v)))
    ∙ ap (λ d. changed d (Inside v)) (sym (view-Object m))

module _ (Becomes : List ℕ → List ℕ → Type 0) where
  pub items_each : (vs : List Value) (changes : List Change) → AreMade (GivesEach Becomes) vs changes vs
      → AreEach Becomes (items_view vs) (with_items (items_view vs) changes)
  items_each [] [] h = tt
  items_each [] (change ∷ changes) h = tt
  items_each (v ∷ vs) [] h =
      (subst (IsEach Becomes (view v)) (changed-Kept (view v) 0) h.0, items_each vs [] h.1)
  items_each (v ∷ vs) (change ∷ changes) h = (h.0, items_each vs changes h.1)

  pub members_each : (es : List Entry) (changes : List Change)
      → AreMade (GivesEach Becomes) (values_of es) changes (values_of es)
      → HasEachMember Becomes (members_view es) (with_members (members_view es) changes)
  members_each [] [] h = tt
  members_each [] (change ∷ changes) h = tt
  members_each (e ∷ es) [] h =
      (refl, subst (IsEach Becomes (view e.1)) (changed-Kept (view e.1) 0) h.0, members_each es [] h.1)
  members_each (e ∷ es) (change ∷ changes) h = (refl, h.0, members_each es changes h.1)
