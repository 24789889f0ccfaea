-- The rows of a table, as its reader reads them.
use denote.Ref.{Bor}
use Rattle.std.proofs.Common.{◌≡◌, ℕ, ◌+◌, Bool, true, false, Option, Some, None, List, [], ◌∷◌, length, inl, refl, sym, ap, ◌∙◌, subst}
use Rattle.std.proofs.lemmas.Bool.{false≢true}
use Rattle.std.specs.Prelude.{not, ◌&&◌, ◌==◌, option_map, if◌then◌else◌}
use Rattle.csv.specs.Machine.{Read, next_record}
use Rattle.csv.specs.Reading.{NextIs, ReadRecord, ReadsNext, buffered_of, has_failed, pending_of, records_from, source_of, strip_bom, took_first, unread_of}
use Rattle.csv.specs.declared.parser.Config.{Config}
use Rattle.csv.specs.declared.parser.State.{State}
use Rattle.csv.specs.declared.reader.Reader.{Reader}
use Rattle.subst_rows.proofs.RecordsLemmas.{records_none, records_step}
use Rattle.subst_rows.specs.TableView.{IsReading, ReadsRow, known_bytes, rows_left, slice_left}

-- a read that gives a record gives the next one
step_some : (config : Config) (s s2 : State) (xs : List ℕ) (rest : Option (List ℕ)) (fields : List (List ℕ))
    → ReadsNext config s (Some xs) rest true fields s2
    → records_from config (length xs + 1) s xs
    ≡ fields ∷ records_from config (length (known_bytes rest) + 1) s2 (known_bytes rest)
step_some config s s2 xs None fields reads = absurd reads
step_some config s s2 xs (Some ys) fields reads = of (next_record config s [] [] xs) refl reads
  where
    of : (found : Option Read) → next_record config s [] [] xs ≡ found → NextIs found true fields s2 ys
        → records_from config (length xs + 1) s xs ≡ fields ∷ records_from config (length ys + 1) s2 ys
    of None is none = absurd (false≢true (sym none))
    of (Some p) is (some, same, state, left) = rw (same, state, left) (records_step config s xs p is)

-- a read that gives none is at the end
step_none : (config : Config) (s s2 : State) (xs : List ℕ) (rest : Option (List ℕ)) (fields : List (List ℕ))
    → ReadsNext config s (Some xs) rest false fields s2 → records_from config (length xs + 1) s xs ≡ []
step_none config s s2 xs None fields reads = absurd reads
step_none config s s2 xs (Some ys) fields reads = of (next_record config s [] [] xs) refl reads
  where
    of : (found : Option Read) → next_record config s [] [] xs ≡ found → NextIs found false fields s2 ys
        → records_from config (length xs + 1) s xs ≡ []
    of None is none = records_none config s xs is
    of (Some p) is (some, same, state, left) = absurd (false≢true some)

-- the bytes that a reader of a slice has left are known
source_known : (reader : Reader (Bor (List ℕ))) → has_failed reader ≡ false
    → (xs : List ℕ) × (source_of slice_left reader ≡ Some xs)
source_known reader whole =
    let (xs, is) = of (not reader.bom_checked && (reader.at == 0) && (reader.filled == 0)) in
    (xs, ap (λ failed. if failed then None else unread_of slice_left reader) whole ∙ is)
  where
    of : (fresh : Bool) → (xs : List ℕ) × ((if fresh then option_map strip_bom (slice_left reader.rdr)
        else buffered_of (slice_left reader.rdr) reader) ≡ Some xs)
    of true = (_, refl)
    of false = (_, refl)

-- once the mark is checked, the bytes left are those in the buffer and after it
source_pending : (reader : Reader (Bor (List ℕ))) → reader.bom_checked ≡ true
    → pending_of (slice_left reader.rdr) reader ≡ source_of slice_left reader
source_pending reader checked =
    ap (λ fresh. if has_failed reader then None
    else (if fresh then option_map strip_bom (slice_left reader.rdr)
    else buffered_of (slice_left reader.rdr) reader))
    (sym (ap (λ b. not b && (reader.at == 0) && (reader.filled == 0)) checked))

module _ (old new : Reader (Bor (List ℕ))) (fields : List (List ℕ)) (reading : IsReading old) where
  -- a row was read: it was the next one
  row_read : ReadRecord slice_left old new true fields → rows_left old ≡ fields ∷ rows_left new
  row_read read =
      let (xs, known) = source_known old reading.whole in
      let rest = pending_of (slice_left new.rdr) new in
      ap (λ left. records_from old.config (length (known_bytes left) + 1) old.state (known_bytes left)) known
      ∙ step_some old.config old.state new.state xs rest fields
      (subst (λ left. ReadsNext old.config old.state left rest true fields new.state) known read.0)
      ∙ ap (λ left. fields ∷ records_from old.config (length (known_bytes left) + 1) new.state (known_bytes left))
      (source_pending new read.1)
      ∙ ap (λ config. fields ∷ records_from config (length (known_bytes (source_of slice_left new)) + 1) new.state
      (known_bytes (source_of slice_left new))) (sym read.2)

  -- no row was left
  none_read : ReadRecord slice_left old new false fields → rows_left old ≡ []
  none_read read =
      let (xs, known) = source_known old reading.whole in
      let rest = pending_of (slice_left new.rdr) new in
      ap (λ left. records_from old.config (length (known_bytes left) + 1) old.state (known_bytes left)) known
      ∙ step_none old.config old.state new.state xs rest fields
      (subst (λ left. ReadsNext old.config old.state left rest false fields new.state) known read.0)

  -- the reader can read on
  reads_on : (found : Bool) → ReadRecord slice_left old new found fields → took_first new ≡ true
      → has_failed new ≡ has_failed old → IsReading new
  reads_on found read first goes = record {
    whole = goes ∙ reading.whole;
    trim = read.3 ∙ reading.trim;
    ready = inl first;
  }

  -- a read of a record reads a row
  pub reads_row : (found : Bool) → ReadRecord slice_left old new found fields → took_first new ≡ true
      → has_failed new ≡ has_failed old → ReadsRow old new found fields
  reads_row found read first goes = record {
    reading = reads_on found read first goes;
    some = λ some. row_read (subst (λ b. ReadRecord slice_left old new b fields) some read);
    none = λ none. none_read (subst (λ b. ReadRecord slice_left old new b fields) none read);
  }
