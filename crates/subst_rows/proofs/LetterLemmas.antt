-- Lemmas on letters.
use denote.Ref.{Bor}
use Rattle.std.proofs.Common.{◌≡◌, ◌∙◌, ◌+◌, ℕ, Bool, true, false, List, [], ◌∷◌, ◌++◌, Option, Some, None, Result, Err, IsTrue, ◌<◌, append-nil, append_assoc, ap, arith, flat_map, nat_lt, if◌then◌else◌, inr, length, refl, subst, sym, take}
use Rattle.std.proofs.KnownBytes.{Appends-nil, Appends-trans}
use Rattle.std.proofs.Math.Seq.{take-append-add}
use Rattle.std.proofs.lemmas.Grind.{common_steps, flat_map-append}
use Rattle.std.specs.Io.KnownBytes.{Appends}
use Rattle.subst_error.specs.Fault.{Fault, NoSuchVariable}
use Rattle.subst_rows.proofs.RowLemmas.{row_look-in_row}
use Rattle.subst_language.specs.Calls.Outcome.{ExpandsInto}
use Rattle.subst_language.specs.Language.Answer.{Answers, Gives, IsMissing, Refuses}
use Rattle.subst_language.specs.Language.LookUp.{LookUp}
use Rattle.subst_language.specs.Language.Sentence.{Spells}
use Rattle.subst_language.specs.Language.Tree.{Tree}
use Rattle.subst_language.specs.Language.Value.{Bytes, Value, value}
use Rattle.subst_error.specs.declared.borrowed.ExpandIntoError.{ExpandIntoError}
use Rattle.subst_error.specs.declared.borrowed.ExpandIntoError.TheVariants as error
use Rattle.subst_error.specs.declared.borrowed.NoSuchVariableRef.{NoSuchVariableRef}
use Rattle.subst_filter_lib.specs.Device.{AppendsPrefix}
use Rattle.subst_rows.specs.Letter.{AreLetterValues, AreValues, Filled, FillsAll, FillsSome, IsNextOutput, IsOpenedFor, Precede, no_rows, separated, then_given, then_missing, then_unread}
use Rattle.subst_rows.specs.Columns.{columns_in}
use Rattle.subst_rows.specs.Row.{cell_look, given_cell, look_in_row, row_look}
use Rattle.subst_rows.specs.Rows.{AreLeft, KeepsNames}
use Rattle.subst_rows.specs.RowsView.{RowsView}
use Rattle.subst_rows.specs.declared.bound.Outcome.TheVariants.{Given, Refused}
use Rattle.subst_rows.specs.declared.bound.Refusal.{Refusal}
use Rattle.subst_rows.specs.declared.bound.Refusal.TheVariants.{Row, Missing}
use Rattle.subst_rows.specs.declared.bound.Bound.{Bound}
use Rattle.subst_rows.specs.declared.letter.Letter.{Letter}
use Rattle.subst_rows.specs.declared.row.Sources.{Sources}

module _ (s : List ℕ) (t : Tree) (spelled : Spells t s) (head : List (List ℕ)) (cells : ℕ → Option (List ℕ))
    (no_empty : Bool) (fixed fallback : LookUp) where
  -- a tree has one value under the look-up for a row
  same_value : value 0 t (row_look head (given_cell no_empty cells) fixed fallback)
      ≡ value 0 t (look_in_row no_empty (cell_look head cells) fixed fallback)
  same_value = ap (λ look. value 0 t look) (row_look-in_row no_empty head cells fixed fallback)

  -- the output of the template for the row
  pub row_gives : (x : List ℕ) → value 0 t (row_look head (given_cell no_empty cells) fixed fallback) ≡ Bytes x
      → Answers s (look_in_row no_empty (cell_look head cells) fixed fallback) (Gives x)
  row_gives x is = (t, spelled, sym same_value ∙ is)

  -- the template is refused for the row
  pub row_refuses : (f : Fault)
      → IsMissing (value 0 t (row_look head (given_cell no_empty cells) fixed fallback)) f
      → Answers s (look_in_row no_empty (cell_look head cells) fixed fallback) (Refuses f)
  row_refuses f missing = inr (t, spelled, subst (λ v. IsMissing v f) same_value missing)

-- an error that states a missing variable
pub missing_at : {T : Type 0} (result : Result T ExpandIntoError) (e : ExpandIntoError) (it : NoSuchVariableRef)
    (before after : List ℕ) (v : Value) → result ≡ Err e → e ≡ error.NoSuchVariable it
    → ExpandsInto before result after v → IsMissing v (NoSuchVariable it.position it.name.now)
missing_at result e it before after v failed is told = rw (failed, is) at told

-- a list is empty
abbrev pub is_nil : {A : Type 0} → List A → Bool
is_nil [] = true
is_nil (x ∷ xs) = false

not_nil : {A : Type 0} (xs : List A) (x : A) → is_nil (xs ++ x ∷ []) ≡ false
not_nil [] x = refl
not_nil (y ∷ xs) x = refl

-- a number above 0
is_some : (count : ℕ) → 0 < count → nat_lt 0 count ≡ true
is_some count some = grind (arith, common_steps, some)

-- one more output
separated_one : (separator : List ℕ) (outputs : List (List ℕ)) (x : List ℕ)
    → separated separator (outputs ++ x ∷ [])
    ≡ separated separator outputs ++ (if is_nil outputs then [] else separator) ++ x
separated_one separator [] x = append-nil x
separated_one separator (y ∷ outputs) x =
    ap (λ rest. y ++ rest) (flat_map-append (λ z. separator ++ z) outputs (x ∷ [])
    ∙ ap (λ rest. flat_map (λ z. separator ++ z) outputs ++ rest) (append-nil (separator ++ x)))
    ∙ sym (append_assoc y (flat_map (λ z. separator ++ z) outputs) (separator ++ x))
    ∙ sym (append_assoc (y ++ flat_map (λ z. separator ++ z) outputs) separator x)

-- the names are kept by two reads
pub keeps_then : (old mid new : RowsView) → KeepsNames old mid → KeepsNames mid new → KeepsNames old new
keeps_then old mid new first second = record {
  head = second.head ∙ first.head;
  nested = second.nested ∙ first.nested;
  names = second.names ∙ first.names;
}

-- the sources of values are those of another head that is the same
pub values_at : (s : List ℕ) (sources : Sources) (head other : List (List ℕ)) (fixed fallback : LookUp)
    → other ≡ head → AreValues s sources head fixed fallback → AreValues s sources other fixed fallback
values_at s sources head other fixed fallback same are =
    subst (λ h. AreValues s sources h fixed fallback) (sym same) are

-- rows that precede others, one after the other
precede_then : (seen : List (Option LookUp)) (row : Option LookUp) (start mid now : RowsView)
    → Precede seen start mid → Precede (row ∷ []) mid now → Precede (seen ++ row ∷ []) start now
precede_then seen row start mid now first second rows left =
    subst (AreLeft start) (sym (append_assoc seen (row ∷ []) rows)) (first (row ∷ rows) (second rows left))

module _ (s : List ℕ) (look_of : LookUp → LookUp) (start : RowsView) where
  -- the template is expanded for some rows; `count` is the number of those that are refused
  pub record IsChecking (now : RowsView) (count : ℕ) : Type 0 where
    pub seen : List (Option LookUp)
    pub outputs : List (List ℕ)
    pub precede : Precede seen start now
    pub filled : Filled s look_of seen outputs (nat_lt 0 count)

  -- no row is read yet
  pub begin_check : IsChecking start 0
  begin_check = record { seen = []; outputs = []; precede = λ rows left. left; filled = no_rows }

  module _ (mid : RowsView) (count : ℕ) (so : IsChecking mid count) where
    -- one more row has an output
    pub one_checked : (now : RowsView) (before after : List ℕ) → IsNextOutput s look_of mid now before after Given
        → IsChecking now count
    one_checked now before after (row, x, next, gives, is) = record {
      seen = so.seen ++ Some row ∷ [];
      outputs = so.outputs ++ x ∷ [];
      precede = precede_then so.seen (Some row) start mid now so.precede next.rows;
      filled = then_given row x so.filled gives;
    }

    -- one more row is refused
    pub one_counted : (now : RowsView) (before after : List ℕ) (why : Refusal) (more : ℕ)
        → IsNextOutput s look_of mid now before after (Refused why) → 0 < more → IsChecking now more
    one_counted now before after (Row e) more (next, same) some = record {
      seen = so.seen ++ None ∷ [];
      outputs = so.outputs;
      precede = precede_then so.seen None start mid now so.precede next.rows;
      filled = subst (Filled s look_of _ so.outputs) (sym (is_some more some)) (then_unread so.filled);
    }
    one_counted now before after (Missing line missing) more (row, f, next, told, same) some = record {
      seen = so.seen ++ Some row ∷ [];
      outputs = so.outputs;
      precede = precede_then so.seen (Some row) start mid now so.precede next.rows;
      filled = subst (Filled s look_of _ so.outputs) (sym (is_some more some)) (then_missing row f so.filled told);
    }

    -- no row is left
    pub all_checked : AreLeft mid []
        → (outputs : List (List ℕ)) × FillsAll s look_of start outputs (nat_lt 0 count)
    all_checked none = (
      so.outputs,
      (so.seen, subst (AreLeft start) (append-nil so.seen) (so.precede [] none), so.filled),
    )

module _ (s : List ℕ) (look_of : LookUp → LookUp) (separator : List ℕ) (leaves_out : Bool) (start : RowsView)
    (old : Option (List ℕ)) where
  -- The outputs of some rows are written, but for the pending bytes.
  pub record IsWriting (now : RowsView) (pending : List ℕ) (is_first : Bool) (mid : Option (List ℕ)) : Type 0 where
    pub seen : List (Option LookUp)
    pub outputs : List (List ℕ)
    pub refused : Bool
    pub precede : Precede seen start now
    pub filled : Filled s look_of seen outputs refused
    pub left_out : IsTrue refused → IsTrue leaves_out
    pub first : is_first ≡ is_nil outputs
    pub done : List ℕ
    pub written : Appends old mid done
    pub whole : done ++ pending ≡ separated separator outputs

  -- nothing is written yet
  pub begin : IsWriting start [] true old
  begin = record {
    seen = [];
    outputs = [];
    refused = false;
    precede = λ rows left. left;
    filled = no_rows;
    left_out = λ never. grind (arith, common_steps, never);
    first = refl;
    done = [];
    written = Appends-nil old;
    whole = refl;
  }

  module _ (mid : RowsView) (pending : List ℕ) (is_first : Bool) (device : Option (List ℕ))
      (so : IsWriting mid pending is_first device) where
    -- one more output is pending
    pub one_given : (now : RowsView) (before after more : List ℕ)
        → IsNextOutput s look_of mid now before after Given → before ≡ []
        → more ≡ pending ++ (if is_first then [] else separator) ++ after → IsWriting now more false device
    one_given now before after more (row, x, next, gives, is) none added = record {
      seen = so.seen ++ Some row ∷ [];
      outputs = so.outputs ++ x ∷ [];
      refused = so.refused;
      precede = precede_then so.seen (Some row) start mid now so.precede next.rows;
      filled = then_given row x so.filled gives;
      left_out = so.left_out;
      first = sym (not_nil so.outputs x);
      done = so.done;
      written = so.written;
      whole =
          let between : Bool → List ℕ = λ empty. if empty then [] else separator in
          ap (λ bytes. so.done ++ bytes)
          (added ∙ ap (λ last. pending ++ between is_first ++ last) (is ∙ ap (λ front. front ++ x) none))
          ∙ sym (append_assoc so.done (pending ++ between is_first) x)
          ∙ ap (λ front. front ++ x) (sym (append_assoc so.done pending (between is_first)))
          ∙ ap (λ front. front ++ between is_first ++ x) so.whole
          ∙ ap (λ empty. separated separator so.outputs ++ between empty ++ x) so.first
          ∙ sym (separated_one separator so.outputs x);
    }

    -- one more row is refused
    pub one_refused : (now : RowsView) (before after : List ℕ) (why : Refusal)
        → IsNextOutput s look_of mid now before after (Refused why)
        → leaves_out ≡ true → IsWriting now pending is_first device
    one_refused now before after (Row e) (next, same) leaves = record {
      seen = so.seen ++ None ∷ [];
      outputs = so.outputs;
      refused = true;
      precede = precede_then so.seen None start mid now so.precede next.rows;
      filled = then_unread so.filled;
      left_out = λ _. leaves;
      first = so.first;
      done = so.done;
      written = so.written;
      whole = so.whole;
    }
    one_refused now before after (Missing line missing) (row, f, next, told, same) leaves = record {
      seen = so.seen ++ Some row ∷ [];
      outputs = so.outputs;
      refused = true;
      precede = precede_then so.seen (Some row) start mid now so.precede next.rows;
      filled = then_missing row f so.filled told;
      left_out = λ _. leaves;
      first = so.first;
      done = so.done;
      written = so.written;
      whole = so.whole;
    }

    -- a part of the pending bytes is written
    pub one_written : (bytes rest : List ℕ) (new : Option (List ℕ)) → Appends device new bytes
        → pending ≡ bytes ++ rest → IsWriting mid rest is_first new
    one_written bytes rest new appended is = record {
      seen = so.seen;
      outputs = so.outputs;
      refused = so.refused;
      precede = so.precede;
      filled = so.filled;
      left_out = so.left_out;
      first = so.first;
      done = so.done ++ bytes;
      written = Appends-trans old device new so.done bytes so.written appended;
      whole = append_assoc so.done bytes rest ∙ ap (λ all. so.done ++ all) (sym is) ∙ so.whole;
    }

    -- the outputs of some rows are written
    pub some_written : (new : Option (List ℕ)) → AppendsPrefix device new pending
        → (outputs : List (List ℕ)) × FillsSome s look_of start outputs
        × AppendsPrefix old new (separated separator outputs)
    some_written new (count, appended) = (
      so.outputs,
      (so.seen, so.refused, (mid, so.precede), so.filled),
      (
        length so.done + count,
        subst (Appends old new)
            (sym (take-append-add so.done pending count) ∙ ap (λ all. take (length so.done + count) all) so.whole)
            (Appends-trans old device new so.done (take count pending) so.written appended),
      ),
    )

    -- nothing more is written
    pub as_written : (outputs : List (List ℕ)) × FillsSome s look_of start outputs
        × AppendsPrefix old device (separated separator outputs)
    as_written = some_written device (0, Appends-nil device)

    -- all outputs are written
    pub all_written : (new : Option (List ℕ)) → AreLeft mid [] → Appends device new pending
        → (outputs : List (List ℕ)) × (refused : Bool) × FillsAll s look_of start outputs refused
        × (IsTrue refused → IsTrue leaves_out) × Appends old new (separated separator outputs)
    all_written new none appended = (
      so.outputs,
      so.refused,
      (so.seen, subst (AreLeft start) (append-nil so.seen) (so.precede [] none), so.filled),
      so.left_out,
      subst (Appends old new) so.whole (Appends-trans old device new so.done pending so.written appended),
    )

module _ (letter : Letter) (fixed fallback : LookUp) (are : AreLetterValues letter fixed fallback)
    (opened : RowsView) (is : IsOpenedFor letter opened) (columns : Bor (List (Option ℕ)))
    (found : columns.now ≡ columns_in opened.head opened.names) (bound : Bound)
    (same : bound.template.now ≡ letter.template.now)
    (from : bound.sources ≡ record {
      fixed = letter.fixed;
      columns = columns;
      fallback = letter.fallback;
      no_empty = letter.no_empty;
    }) where
  -- the values of the template that is bound to the columns
  pub bound_values : AreValues bound.template.now bound.sources opened.head fixed fallback
  bound_values = rw (same, from) (record {
    tree = are.tree;
    spelled = are.spelled;
    columns = found ∙ ap (columns_in opened.head) (is.names_kept ∙ are.names);
    over = are.over;
    under = are.under;
  })

  -- an outcome of the bound template is one of the letter
  pub of_letter : (P : List ℕ → (LookUp → LookUp) → Type 0)
      → P bound.template.now (λ row. look_in_row bound.sources.no_empty row fixed fallback)
      → P letter.template.now (λ row. look_in_row letter.no_empty row fixed fallback)
  of_letter P so = rw (same, from) at so
