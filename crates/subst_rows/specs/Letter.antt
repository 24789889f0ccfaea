-- Letters: a template that is expanded for each row of a text.
use Rattle.std.specs.Prelude.{◌≡◌, ◌<◌, ◌⊎◌, ℕ, Bool, true, false, List, [], ◌∷◌, ◌++◌, flat_map, Option, Some, None}
use Rattle.subst_error.specs.Fault.{Fault}
use Rattle.subst_indexed.specs.Slot.{values_of}
use Rattle.subst_language.specs.Language.Answer.{Answers, Gives, Refuses}
use Rattle.subst_language.specs.Language.LookUp.{LookUp}
use Rattle.subst_language.specs.Language.Sentence.{Spells}
use Rattle.subst_language.specs.Language.Tree.{Tree}
use Rattle.subst_rows.specs.Columns.{bytes_of, columns_in, names_at}
use Rattle.subst_rows.specs.Row.{IsLookOf}
use Rattle.subst_rows.specs.Rows.{AreLeft, IsOpened, ReadsRow}
use Rattle.subst_rows.specs.RowsView.{RowsView, count_left}
use Rattle.subst_rows.specs.declared.bound.Outcome.{Outcome}
use Rattle.subst_rows.specs.declared.bound.Outcome.TheVariants.{Ended, Given, Refused}
use Rattle.subst_rows.specs.declared.bound.Refusal.TheVariants.{Row, Missing}
use Rattle.subst_rows.specs.declared.letter.Letter.{Letter}
use Rattle.subst_rows.specs.declared.row.Sources.{Sources}

-- the sources of the values of the template s are these look-ups, and the columns of a head
pub record AreValues (s : List ℕ) (sources : Sources) (head : List (List ℕ)) (fixed fallback : LookUp)
    : Type 0 where
  pub tree : Tree
  pub spelled : Spells tree s
  pub columns : sources.columns.now ≡ columns_in head (names_at tree)
  pub over : IsLookOf (names_at tree) (values_of sources.fixed.now) fixed
  pub under : IsLookOf (names_at tree) (values_of sources.fallback.now) fallback

-- the outputs in one text, with a separator between each two
abbrev pub separated : (separator : List ℕ) → (outputs : List (List ℕ)) → List ℕ
separated separator [] = []
separated separator (x ∷ outputs) = x ++ flat_map (λ y. separator ++ y) outputs

-- The template s is expanded for rows, in order, each with the look-up that `look_of` has for it. `outputs`
-- are the outputs, and `refused` states whether some row was refused. A refused row has no output.
pub data Filled (s : List ℕ) (look_of : LookUp → LookUp) : (rows : List (Option LookUp))
    → (outputs : List (List ℕ)) → (refused : Bool) → Type 0 where
  no_rows : Filled s look_of [] [] false
  then_given : {rows : List (Option LookUp)} {outputs : List (List ℕ)} {refused : Bool} (row : LookUp)
      (x : List ℕ) → Filled s look_of rows outputs refused → Answers s (look_of row) (Gives x)
      → Filled s look_of (rows ++ Some row ∷ []) (outputs ++ x ∷ []) refused
  then_missing : {rows : List (Option LookUp)} {outputs : List (List ℕ)} {refused : Bool} (row : LookUp)
      (f : Fault) → Filled s look_of rows outputs refused → Answers s (look_of row) (Refuses f)
      → Filled s look_of (rows ++ Some row ∷ []) outputs true
  then_unread : {rows : List (Option LookUp)} {outputs : List (List ℕ)} {refused : Bool}
      → Filled s look_of rows outputs refused → Filled s look_of (rows ++ None ∷ []) outputs true

-- the rows that were left before are `seen`, and then those that are left now
abbrev pub Precede : (seen : List (Option LookUp)) → (before now : RowsView) → Type 0
Precede seen before now = (rows : List (Option LookUp)) → AreLeft now rows → AreLeft before (seen ++ rows)

-- the template s was expanded for all rows that are left
abbrev pub FillsAll : (s : List ℕ) → (look_of : LookUp → LookUp) → RowsView → (outputs : List (List ℕ))
    → (refused : Bool) → Type 0
FillsAll s look_of left outputs refused =
    (rows : List (Option LookUp)) × AreLeft left rows × Filled s look_of rows outputs refused

-- the template s was expanded for the first of the rows that are left
abbrev pub FillsSome : (s : List ℕ) → (look_of : LookUp → LookUp) → RowsView → (outputs : List (List ℕ))
    → Type 0
FillsSome s look_of left outputs =
    (seen : List (Option LookUp)) × (refused : Bool) × ((now : RowsView) × Precede seen left now)
    × Filled s look_of seen outputs refused

-- the outcome of the next row of those that are left; the bytes are `before` before it, and `after` it
abbrev pub IsNextOutput : (s : List ℕ) → (look_of : LookUp → LookUp) → (old new : RowsView)
    → (before after : List ℕ) → Outcome → Type 0
IsNextOutput s look_of old new before after Ended = AreLeft old [] × (after ≡ before)
IsNextOutput s look_of old new before after Given =
    (row : LookUp) × (x : List ℕ) × ReadsRow old new (Some row) × Answers s (look_of row) (Gives x)
    × (after ≡ before ++ x)
IsNextOutput s look_of old new before after (Refused (Row e)) = ReadsRow old new None × (after ≡ before)
IsNextOutput s look_of old new before after (Refused (Missing line missing)) =
    (row : LookUp) × (f : Fault) × ReadsRow old new (Some row) × Answers s (look_of row) (Refuses f)
    × (after ≡ before)

-- fewer rows are left after the outcome than before it, unless there was no next row
abbrev pub LeavesFewer : (old new : RowsView) → Outcome → Type 0
LeavesFewer old new Ended = Unit {0}
LeavesFewer old new outcome = count_left new.left < count_left old.left

-- the values of a letter that don't come from rows are those of these look-ups
pub record AreLetterValues (letter : Letter) (fixed fallback : LookUp) : Type 0 where
  pub tree : Tree
  pub spelled : Spells tree letter.template.now
  pub names : bytes_of letter.names.now ≡ names_at tree
  pub over : IsLookOf (names_at tree) (values_of letter.fixed.now) fixed
  pub under : IsLookOf (names_at tree) (values_of letter.fallback.now) fallback

-- the rows of a letter's text
abbrev pub IsOpenedFor : Letter → RowsView → Type 0
IsOpenedFor letter opened =
    IsOpened letter.format letter.nested (bytes_of letter.names.now) letter.text.now opened

-- the template was expanded for all rows of a letter's text
abbrev pub FillsText : Letter → (look_of : LookUp → LookUp) → (outputs : List (List ℕ)) → (refused : Bool) → Type 0
FillsText letter look_of outputs refused =
    (opened : RowsView) × IsOpenedFor letter opened
    × FillsAll letter.template.now look_of opened outputs refused

-- the template was expanded for the first rows of a letter's text, or for none
abbrev pub FillsSomeRows : Letter → (look_of : LookUp → LookUp) → (outputs : List (List ℕ)) → Type 0
FillsSomeRows letter look_of outputs =
    (outputs ≡ []) ⊎ ((opened : RowsView) × IsOpenedFor letter opened
    × FillsSome letter.template.now look_of opened outputs)
