-- Changes of the values in a tree: as lists, their depth, and the values after them.
use Rattle.std.proofs.Common.{◌≡◌, ◌≤◌, ◌+◌, ◌-◌, ◌<◌, ℕ, zero, suc, max, Bool, true, cond, List, [], ◌∷◌, ◌++◌, length, map, take, drop, set, get_or, replicate, Vec, Global, refl, sym, ap, ◌∙◌, subst, append_assoc, append-nil, rules, arith}
use Rattle.std.proofs.lemmas.List.{drop_more, drop-set-lt, take_more_set, length-append}
use Rattle.std.specs.List.{FoldsTo}
use Rattle.std.specs.Map.{keys_of, values_of}
use Rattle.std.specs.Map.Calls.{CallableOnEachPair, SomeCallAtPair, RetainsPairs}
use Rattle.subst_document.specs.Changes.{slots, slots_of, one, inside, next_of, rest_of, AreMade}
use Rattle.subst_document.specs.declared.changes.Change.{Change, Kept, Text, Inside, Inside', fold-Change, the_lemmas}
use Rattle.subst_document.specs.declared.changes.Change.TheOpen.{Change-F}

-- Lists of changes.

pub slots-append : (xs ys : List Change) → slots (xs ++ ys) ≡ slots xs ++ slots ys
slots-append [] ys = refl
slots-append (x ∷ xs) ys = search (rules, slots_of, append_assoc, slots-append xs ys)

-- a change that keeps no values is one of a single value
pub alone : (change : Change) → ((n : ℕ) → change ≡ Kept n → ⊥) → slots (change ∷ []) ≡ one change ∷ []
alone (Kept n) h = absurd (h n refl)
alone (Text x) h = refl
alone (Inside' shape all) h = refl

-- kept values, as one change
pub run : (n : ℕ) → 0 < n → slots (Kept (n - 1) ∷ []) ≡ replicate n (Kept 0)
run n h = search (rules, append-nil, replicate)

pub slots-empty : (changes : List Change) → length changes ≡ 0 → slots changes ≡ []
slots-empty [] h = refl
slots-empty (change ∷ changes) h = absurd (omega arith)

pub inside-Inside : (v : Vec Change Global) → inside (Inside v) ≡ slots v.items
inside-Inside v = search (rules, the_lemmas)

-- The depth of changes, by which the walk that makes them ends.

abbrev deepest : List ℕ → ℕ
deepest [] = 0
deepest (n ∷ ns) = max n (deepest ns)

abbrev depth_step : Change-F ℕ → ℕ
depth_step (Change-F.Kept n) = 0
depth_step (Change-F.Text x) = 0
depth_step (Change-F.Inside v) = suc (deepest v.items)

abbrev pub change_depth : Change → ℕ
change_depth = fold-Change ℕ depth_step

abbrev pub changes_depth : List Change → ℕ
changes_depth changes = deepest (map change_depth changes)

depth-Kept : (n : ℕ) → change_depth (Kept n) ≡ 0
depth-Kept n = search (rules, the_lemmas)

depth-run : (n : ℕ) (changes : List Change)
    → changes_depth (replicate n (Kept 0) ++ changes) ≡ changes_depth changes
depth-run zero changes = refl
depth-run (suc n) changes =
    search (rules, depth-Kept, changes_depth, replicate, max, change_depth, depth-run n changes)

pub depth-slots : (changes : List Change) → changes_depth (slots changes) ≤ changes_depth changes
depth-slots [] = omega arith
depth-slots (Kept n ∷ changes) =
    let kept = depth-run (suc n) (slots changes) in
    let rest = depth-slots changes in
    let all : changes_depth (slots (Kept n ∷ changes))
    ≡ changes_depth (replicate (suc n) (Kept 0) ++ slots changes) = refl in
    omega arith
depth-slots (Text x ∷ changes) = search (rules, changes_depth, slots, max, change_depth, depth-slots changes)
depth-slots (Inside' shape all ∷ changes) =
    search (rules, changes_depth, slots, max, change_depth, depth-slots changes)

pub depth-rest : (changes : List Change) → changes_depth (rest_of changes) ≤ changes_depth changes
depth-rest [] = omega arith
depth-rest (change ∷ changes) = grind arith

-- The values after changes. `Made` is the relation of a value, its change and the value after it.
module _ {T : Type 0} (Made : T → Change → T → Type 0) where
  made_append : (vs : List T) (changes : List Change) (v : T) (change : Change) → length changes ≡ length vs
      → AreMade Made vs changes vs → Made v change v
      → AreMade Made (vs ++ v ∷ []) (changes ++ change ∷ []) (vs ++ v ∷ [])
  made_append [] [] v change long h k = (k, tt)
  made_append (x ∷ vs) (c ∷ changes) v change long h k =
      (h.0, made_append vs changes v change (omega arith) h.1 k)
  made_append [] (c ∷ changes) v change long h k = absurd (omega arith)
  made_append (x ∷ vs) [] v change long h k = absurd (omega arith)

  -- one more value, with its change
  pub found_more : (vs : List T) (found more : List Change) (v : T) (change : Change)
      → more ≡ found ++ change ∷ [] → length found ≡ length vs → AreMade Made vs found vs → Made v change v
      → (length more ≡ length (vs ++ v ∷ [])) × AreMade Made (vs ++ v ∷ []) more (vs ++ v ∷ [])
  found_more vs found more v change is long h k = (
    ap length is ∙ length-append found (change ∷ []) ∙ ap (λ n. n + 1) long ∙ sym (length-append vs (v ∷ [])),
    subst (λ cs. AreMade Made (vs ++ v ∷ []) cs (vs ++ v ∷ [])) (sym is)
        (made_append vs found v change long h k),
  )

  -- the kept values at the end need no changes
  pub made_up_to_kept : (vs : List T) (changes : List Change) (n : ℕ) (ws : List T)
      → AreMade Made vs (changes ++ replicate n (Kept 0)) ws → AreMade Made vs changes ws
  made_up_to_kept [] changes n [] h = tt
  made_up_to_kept [] changes n (w ∷ ws) h = absurd h
  made_up_to_kept (v ∷ vs) changes n [] h = absurd h
  made_up_to_kept (v ∷ vs) [] zero (w ∷ ws) h = h
  made_up_to_kept (v ∷ vs) [] (suc n) (w ∷ ws) h = (h.0, made_up_to_kept vs [] n ws h.1)
  made_up_to_kept (v ∷ vs) (c ∷ changes) n (w ∷ ws) h = (h.0, made_up_to_kept vs changes n ws h.1)

  -- If all values are made once those from an index on are, they are once those after it are.
  pub made_at : (old all : List T) (i : ℕ) (v w : T) (first changes : List Change) → i < length all
      → v ≡ get_or all i v → Made v (next_of changes) w
      → ((ws : List T) → AreMade Made (drop i all) changes ws → AreMade Made old first (take i all ++ ws))
      → (ws : List T) → AreMade Made (drop (i + 1) (set all i w)) (rest_of changes) ws
      → AreMade Made old first (take (i + 1) (set all i w) ++ ws)
  made_at old all i v w first changes within here made so_far ws h =
      let left : drop i all ≡ v ∷ drop (i + 1) all =
      drop_more all i v within ∙ ap (λ x. x ∷ drop (i + 1) all) (sym here) in
      let rest = subst (λ vs. AreMade Made vs (rest_of changes) ws) (drop-set-lt (i + 1) all i w (omega arith))
      h in
      let taken : take (i + 1) (set all i w) ++ ws ≡ take i all ++ (w ∷ ws) =
      ap (λ vs. vs ++ ws) (take_more_set all i w within) ∙ append_assoc (take i all) (w ∷ []) ws in
      subst (AreMade Made old first) (sym taken)
      (so_far (w ∷ ws) (subst (λ vs. AreMade Made vs changes (w ∷ ws)) (sym left) (made, rest)))

  -- the entries that `retain` keeps, if each call makes the next change of a value
  pub made_by_retain : {F K : Type 0} (Calls : F → K → T → Bool → T → F → Type 0) (left : F → List Change)
      → ((f : F) (k : K) (v : T) (b : Bool) (w : T) (f' : F) → Calls f k v b w f'
      → (b ≡ true) × Made v (next_of (left f)) w × (left f' ≡ rest_of (left f)))
      → (f : F) (es kept : List (K × T)) → RetainsPairs Calls f es kept
      → (keys_of kept ≡ keys_of es) × AreMade Made (values_of es) (left f) (values_of kept)
  made_by_retain Calls left step f [] kept h =
      (ap keys_of h, subst (λ es. AreMade Made [] (left f) (values_of es)) (sym h) tt)
  made_by_retain Calls left step f (e ∷ es) kept h =
      let (b, w, f', rest, called, more, is) = h in
      let (stays, made, after) = step f e.0 e.1 b w f' called in
      let below = made_by_retain Calls left step f' es rest more in
      let all : kept ≡ (e.0, w) ∷ rest = is ∙ ap (λ x. cond x ((e.0, w) ∷ rest) rest) stays in
      let those : AreMade Made (values_of es) (rest_of (left f)) (values_of rest) =
      subst (λ cs. AreMade Made (values_of es) cs (values_of rest)) after below.1 in (
        ap keys_of all ∙ ap (λ ks. e.0 ∷ ks) below.0,
        subst (λ es'. AreMade Made (e.1 ∷ values_of es) (left f) (values_of es')) (sym all) (made, those),
      )

-- A closure may be called at each entry if its condition holds at first and each call preserves it.
module _ {F K T : Type 0} (Calls : F → K → T → Bool → T → F → Type 0) (Takes : F → K → T → Type 0)
    (Holds : F → Type 0)
    (keeps : (f : F) (k : K) (v : T) (b : Bool) (w : T) (f' : F) → Calls f k v b w f' → Holds f → Holds f')
    (able : (f : F) (k : K) (v : T) → Holds f → Takes f k v) where
  held : (before : List (K × T)) (f f' : F) → FoldsTo (SomeCallAtPair Calls) f before f' → Holds f → Holds f'
  held [] f f' h i = subst Holds h i
  held (e ∷ before) f f' (j, (b, w, called), rest) i =
      held before j f' rest (keeps f e.0 e.1 b w j called i)

  pub callable : (f : F) (es : List (K × T)) → Holds f → CallableOnEachPair Calls Takes f es
  callable f es i = record { at = λ before after f' k v cut folds. able f' k v (held before f f' folds i) }
