-- The relation of the language to the earlier one.
use Rattle.std.specs.Prelude.{◌≡◌, ◌↔◌, ℕ, List, [], Contains}
use Rattle.subst_error.specs.Fault.{Fault, UnexpectedCharacter}
use Rattle.subst_language.specs.Language.Bytes.{question_mark}
use Rattle.subst_language.specs.Language.Tree.{Item, Plain, Escaped, Short, Braced, Default, Tree, Empty, Then}
use Rattle.subst_language.specs.Language.Sentence.{Spells}
use Rattle.subst_language.specs.Language.LookUp.{LookUp}
use Rattle.subst_language.specs.Language.Value.{value}
use Rattle.subst_language.specs.Language.BadItem.{HasFault}
use Rattle.subst_language.specs.Earlier.Tree as earlier
use Rattle.subst_language.specs.Earlier.Tree.{Item as EarlierItem, Tree as EarlierTree}
use Rattle.subst_language.specs.Earlier.Sentence.{Spells as EarlierSpells}
use Rattle.subst_language.specs.Earlier.Value.{value as earlier_value}
use Rattle.subst_language.specs.Earlier.BadItem.{HasFault as HasEarlierFault}

abbrev mutual
  -- an item of the earlier language as an item of the present one
  pub extended_item : EarlierItem → Item
  extended_item (earlier.Plain b) = Plain b
  extended_item (earlier.Escaped b) = Escaped b
  extended_item (earlier.Short n) = Short n
  extended_item (earlier.Braced n) = Braced n
  extended_item (earlier.Default n t) = Default n (extended t)

  -- a tree of the earlier language as a tree of the present one, item for item
  pub extended : EarlierTree → Tree
  extended earlier.Empty = Empty
  extended (earlier.Then item rest) = Then (extended_item item) (extended rest)

-- the fault, without the message of what was expected
abbrev pub without_expected : Fault → Fault
without_expected (UnexpectedCharacter position character expected) = UnexpectedCharacter position character []
without_expected f = f

-- s reads as before: compared with the earlier language, it has no new tree, and only the messages of its
-- faults may differ
pub record ReadsAsBefore (s : List ℕ) : Type 0 where
  -- each tree of s is a tree of s in the earlier language too
  pub tree : (t : Tree) → Spells t s → (u : EarlierTree) × EarlierSpells u s × (t ≡ extended u)
  -- s has a fault if and only if it has one in the earlier language
  pub fault : (p : ℕ) → ((f : Fault) × HasFault p s f) ↔ ((g : Fault) × HasEarlierFault p s g)
  -- the two faults are equal except for the message of what was expected
  pub same_fault : (p : ℕ) (f g : Fault) → HasFault p s f → HasEarlierFault p s g
      → without_expected f ≡ without_expected g

-- s keeps each tree that it has in the earlier language and, if it has no question mark, reads as before
pub record KeepsReading (s : List ℕ) : Type 0 where
  -- each earlier tree of s is a tree of s
  pub tree : (t : EarlierTree) → EarlierSpells t s → Spells (extended t) s
  -- each earlier tree has the same value as before, at each position and under each look-up
  pub same_value : (t : EarlierTree) (p : ℕ) (look : LookUp)
      → value p (extended t) look ≡ earlier_value p t look
  -- if s has no question mark, it reads as before: it has no new tree, and only the message of a fault may
  -- differ
  pub no_other : ¬ (Contains s question_mark) → ReadsAsBefore s
