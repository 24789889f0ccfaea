-- Trees of the earlier language, as trees of the present one.
use Rattle.std.proofs.Common.{◌≡◌, ℕ, ◌+◌, List, [], ◌∷◌, length, refl, sym, ap, ◌∙◌}
use Rattle.subst_language.specs.Language.Bytes.{question_mark, closing_brace}
use Rattle.subst_language.specs.Language.Tree.{Item, Plain, Escaped, Short, Braced, Optional, Default, Tree, Empty, Then, item_text, text}
use Rattle.subst_language.specs.Language.Name.{IsName}
use Rattle.subst_language.specs.Language.WellFormed.{EndsName, IsItem, IsWellFormed}
use Rattle.subst_language.specs.Language.Sentence.{Spells}
use Rattle.subst_language.specs.Language.LookUp.{LookUp}
use Rattle.subst_language.specs.Language.Value.{found_or, item_value, value}
use Rattle.subst_language.specs.Earlier.Tree as earlier
use Rattle.subst_language.specs.Earlier.Tree.{Item as EarlierItem, Tree as EarlierTree, item_text as earlier_item_text, text as earlier_text}
use Rattle.subst_language.specs.Earlier.WellFormed.{EndsName as EndsEarlierName, IsItem as IsEarlierItem, IsWellFormed as IsEarlierWellFormed}
use Rattle.subst_language.specs.Earlier.Sentence.{Spells as EarlierSpells}
use Rattle.subst_language.specs.Earlier.Value.{item_value as earlier_item_value, value as earlier_value}
use Rattle.subst_language.specs.Earlier.Extension.{extended_item, extended}
use Rattle.subst_language.proofs.Earlier.QuestionMarkLemmas.{HasNoQuestionMark, no_mark_in_prefix, no_mark_in_rest, no_mark_first, no_mark_after_name, no_mark_in_default}

mutual
  -- an item has the text that it had
  pub item_text-extended_item : (item : EarlierItem) → item_text (extended_item item) ≡ earlier_item_text item
  item_text-extended_item (earlier.Default n t) = rw (text-extended t)
  item_text-extended_item (earlier.Plain b) = refl
  item_text-extended_item _ = refl

  -- a tree has the text that it had
  pub text-extended : (t : EarlierTree) → text (extended t) ≡ earlier_text t
  text-extended earlier.Empty = refl
  text-extended (earlier.Then item rest) = rw (item_text-extended_item item, text-extended rest)

-- a tree ends a name if and only if it did
EndsName-extended : (t : EarlierTree) → EndsName (extended t) ≡ EndsEarlierName t
EndsName-extended earlier.Empty = refl
EndsName-extended (earlier.Then (earlier.Plain b) rest) = refl
EndsName-extended (earlier.Then _ rest) = refl

mutual
  -- an item may precede a tree if and only if it might
  IsItem-extended_item : (item : EarlierItem) (next : EarlierTree)
      → IsItem (extended_item item) (extended next) ≡ IsEarlierItem item next
  IsItem-extended_item (earlier.Short n) next = ap (λ (E : Type 0). IsName n × E) (EndsName-extended next)
  IsItem-extended_item (earlier.Default n t) next = rw (IsWellFormed-extended t, text-extended t)
  IsItem-extended_item (earlier.Plain b) next = refl
  IsItem-extended_item _ next = refl

  -- a tree is well-formed if and only if it was
  pub IsWellFormed-extended : (t : EarlierTree) → IsWellFormed (extended t) ≡ IsEarlierWellFormed t
  IsWellFormed-extended earlier.Empty = refl
  IsWellFormed-extended (earlier.Then item rest) =
      rw (IsItem-extended_item item rest, IsWellFormed-extended rest)

mutual
  -- an item has the value that it had
  item_value-extended_item : (p : ℕ) (item : EarlierItem) (look : LookUp)
      → item_value p (extended_item item) look ≡ earlier_item_value p item look
  item_value-extended_item p (earlier.Default n t) look =
      ap (found_or (look n)) (value-extended (p + 3 + length n) t look)
  item_value-extended_item p (earlier.Plain b) look = refl
  item_value-extended_item p _ look = refl

  -- a tree has the value that it had
  pub value-extended : (p : ℕ) (t : EarlierTree) (look : LookUp)
      → value p (extended t) look ≡ earlier_value p t look
  value-extended p earlier.Empty look = refl
  value-extended p (earlier.Then item rest) look =
      let q = p + length (earlier_item_text item) in
      rw (item_text-extended_item item, item_value-extended_item p item look, value-extended q rest look)

mutual
  -- an item without a question mark is an earlier one
  item_before : (item : Item) → HasNoQuestionMark (item_text item)
      → (i : EarlierItem) × (item ≡ extended_item i)
  item_before (Plain b) none = (earlier.Plain b, refl)
  item_before (Escaped b) none = (earlier.Escaped b, refl)
  item_before (Short n) none = (earlier.Short n, refl)
  item_before (Braced n) none = (earlier.Braced n, refl)
  item_before (Optional n) none =
      let x = closing_brace ∷ [] in
      absurd (no_mark_first question_mark x (no_mark_after_name n (question_mark ∷ x) none) refl)
  item_before (Default n t) none =
      let (u, is) = tree_before t (no_mark_in_default n (text t) (closing_brace ∷ []) none) in
      (earlier.Default n u, ap (Default n) is)

  -- a tree whose text has no question mark is an earlier one
  pub tree_before : (t : Tree) → HasNoQuestionMark (text t) → (u : EarlierTree) × (t ≡ extended u)
  tree_before Empty none = (earlier.Empty, refl)
  tree_before (Then item rest) none =
      let (i, is) = item_before item (no_mark_in_prefix (item_text item) (text rest) none) in
      let (u, are) = tree_before rest (no_mark_in_rest (item_text item) (text rest) none) in
      (earlier.Then i u, cc)

-- a sentence stays one, with its tree
pub spells_extended : (s : List ℕ) (t : EarlierTree) → EarlierSpells t s → Spells (extended t) s
spells_extended s t a =
    let spelled = a.spelled ∙ sym (text-extended t) in
    record { well_formed = rw IsWellFormed-extended a.well_formed; spelled = spelled }

-- a sentence without a question mark was one, of a tree of the same items
pub spells_before : (s : List ℕ) → HasNoQuestionMark s → (t : Tree) → Spells t s
    → (u : EarlierTree) × EarlierSpells u s × (t ≡ extended u)
spells_before s none t a =
    let spelled = a.spelled in
    let (u, is) = tree_before t (rw spelled at none) in
    let earlier_spells : EarlierSpells u s =
    record {
      well_formed = rw (← IsWellFormed-extended u, ← is) a.well_formed;
      spelled = spelled ∙ ap text is ∙ text-extended u;
    } in
    (u, earlier_spells, is)
