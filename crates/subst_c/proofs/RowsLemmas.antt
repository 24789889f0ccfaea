-- The outputs of cells with rows of values, one after the other in a buffer.
use Rattle.std.proofs.Common.{◌≡◌, ◌≢◌, ◌⊎◌, ◌<◌, ◌≤◌, ◌+◌, ◌-◌, ℕ, min, List, [], ◌∷◌, ◌++◌, take, drop, get_or, length, Err, inl, inr, refl, sym, ap, ◌∙◌, subst, arith, append-nil, append_assoc, length-append, length-drop}
use Rattle.std.proofs.Math.ListN.{set}
use Rattle.std.proofs.lemmas.List.{drop-drop, drop_all, drop_more, length-take-le, set_at, take_all, take_at, take_more, take_rest}
use Rattle.std.proofs.lemmas.Slice.{drop-append-drop}
use Rattle.std.specs.List.{concat}
use borrow.Rule.Slice.PartMut.{put_mid}
use Rattle.subst_error.specs.Fault.{Fault}
use Rattle.subst_language.proofs.Language.SeveralLemmas.{each_more, length_each, refused_at}
use Rattle.subst_language.specs.Language.Answer.{Answer, Gives, Refuses}
use Rattle.subst_language.specs.Language.Several.{EachGives, RefusesAt}
use Rattle.subst_indexed.specs.Expansion.{Expansion}
use Rattle.subst_indexed.specs.Laws.{IsHarmless}
use Rattle.subst_indexed.specs.Outcome.{IsOutcome}
use Rattle.subst_indexed.specs.Template.{template_expansion}
use Rattle.subst_indexed.specs.declared.cell.Cell.{Cell}
use Rattle.subst_indexed.specs.declared.walk.Stop.{Stop}
use Rattle.subst_indexed.specs.declared.walk.Stop.TheVariants as stops
use Rattle.subst_c.proofs.BufferLemmas.{put_as}
use Rattle.subst_c.proofs.EachLemmas.{concat-more, ends_from-append, length-ends_from}
use Rattle.subst_c.proofs.ExpandedLemmas.{expands_stopped}
use Rattle.subst_c.specs.Each.{ends_from}
use Rattle.subst_c.specs.Expanded.{AreExpansions, ExpandsEach, stop_fault, stop_number}
use Rattle.subst_c.specs.Values.{given_values, under_values}
use Rattle.subst_c.specs.declared.fault.FaultRecord.{FaultRecord}
use Rattle.subst_c.specs.declared.outcome.TheConstants.{DONE, REFUSED, ROOM_TOO_SMALL}
use Rattle.subst_c.specs.declared.value.ValueRow.{ValueRow}

-- bytes are put after the first `written` bytes of a buffer, by a call that wrote to a part of it
pub put_after : (old part x : List ℕ) (from written needed end : ℕ) → from ≡ min written (length old)
    → needed ≡ length x
    → (needed ≤ length (take (length old - from) (drop from old))
    → part ≡ x ++ drop needed (take (length old - from) (drop from old)))
    → end ≡ written + needed → end ≤ length old
    → put_mid from (length old - from) old part ≡ take written old ++ x ++ drop end old
put_after old part x from written needed end at counted put ends fits =
    let here : from ≡ written = omega arith in
    let seen = take_rest old from in
    let rest : drop needed (drop from old) ≡ drop end old =
    drop-drop needed from old ∙ ap (λ n. drop n old) (omega arith) in
    let enough : needed ≤ length (take (length old - from) (drop from old)) =
    omega (arith, ap length seen, length-drop from old) in
    let part_is : part ≡ x ++ drop end old =
    put enough ∙ ap (λ l. x ++ drop needed l) seen ∙ ap (λ l. x ++ l) rest in
    let post : drop (length old - from) (drop from old) ≡ [] =
    drop_all (length old - from) (drop from old) (omega (arith, length-drop from old)) in
    ap (λ l. take from old ++ (part ++ l)) post ∙ ap (λ l. take from old ++ l) (append-nil part ∙ part_is)
    ∙ sym (append_assoc (take from old) x (drop end old)) ∙ ap (λ n. take n old ++ x ++ drop end old) here

-- an expansion that stopped states the same whatever it would have returned
pub stopped_as : {T U : Type 0} (is_unasked : ℕ → Type 0) (e : Expansion) (P : T → List ℕ → Type 0)
    (Q : U → List ℕ → Type 0) (stop : Stop) → IsOutcome is_unasked e (Err stop) P
    → IsOutcome is_unasked e (Err stop) Q
stopped_as is_unasked e P Q (stops.Full failed) outcome = tt
stopped_as is_unasked e P Q (stops.Missing name) outcome = outcome
stopped_as is_unasked e P Q (stops.Asks number) outcome = outcome
stopped_as is_unasked e P Q stops.NotATemplate outcome = outcome

-- The outputs of rows, `written` bytes, are written to the front of a buffer if it is long enough. The
-- positions where they end are written to the front of `ends` if it is.
pub record AreWritten (HasAnswer : ValueRow → Answer → Type 0) (rows : List ValueRow) (written : ℕ)
    (old new ends_old ends : List ℕ) : Type 0 where
  pub bytes : List ℕ
  pub outputs_end : List ℕ
  pub are : AreExpansions HasAnswer rows bytes outputs_end
  pub counted : written ≡ length bytes
  pub put : written ≤ length old → new ≡ bytes ++ drop written old
  pub ended : length rows ≤ length ends_old → ends ≡ outputs_end ++ drop (length rows) ends_old

module _ (HasAnswer : ValueRow → Answer → Type 0) where
  -- the outputs of no rows
  pub none_written : (old ends : List ℕ) → AreWritten HasAnswer [] 0 old old ends ends
  none_written old ends = record {
    bytes = [];
    outputs_end = [];
    are = record { outputs = []; given = tt; joined = refl; ended = refl };
    counted = refl;
    put = λ fits. refl;
    ended = λ fits. refl;
  }

  -- there are as many ends as rows
  as_many : (rows : List ValueRow) (bytes ends : List ℕ) → AreExpansions HasAnswer rows bytes ends
      → length ends ≡ length rows
  as_many rows bytes ends are =
      ap length are.ended ∙ length-ends_from 0 are.outputs ∙ length_each HasAnswer rows are.outputs are.given

  -- the output of the row at an index, after those of the rows before it
  one_more : (rows : List ValueRow) (i : ℕ) (d : ValueRow) (bytes ends x : List ℕ) (end : ℕ) → i < length rows
      → AreExpansions HasAnswer (take i rows) bytes ends → HasAnswer (get_or rows i d) (Gives x)
      → end ≡ length bytes + length x
      → AreExpansions HasAnswer (take (i + 1) rows) (bytes ++ x) (ends ++ end ∷ [])
  one_more rows i d bytes ends x end h are given counted =
      let all = are.outputs in
      let row = get_or rows i d in
      let bytes_are : bytes ++ x ≡ concat all ++ x = ap (λ b. b ++ x) are.joined in
      let ends_at : end ≡ 0 + length (concat all ++ x) =
      omega (arith, ap length are.joined, length-append (concat all) x) in
      let ends_are : ends ++ end ∷ [] ≡ ends_from 0 all ++ (0 + length (concat all ++ x)) ∷ [] =
      ap (λ e. e ++ end ∷ []) are.ended ∙ ap (λ m. ends_from 0 all ++ m ∷ []) ends_at in
      subst (λ r. AreExpansions HasAnswer r (bytes ++ x) (ends ++ end ∷ [])) (sym (take_more rows i d h)) (record {
        outputs = all ++ x ∷ [];
        given = each_more HasAnswer (take i rows) all row x are.given given;
        joined = bytes_are ∙ sym (concat-more all x);
        ended = ends_are ∙ sym (ends_from-append 0 all x);
      })

  -- the output of the row at an index is written after those of the rows before it
  pub row_written : (rows : List ValueRow) (i : ℕ) (d : ValueRow) (written end : ℕ)
      (old before now ends_old ends_before ends x : List ℕ) → i < length rows
      → AreWritten HasAnswer (take i rows) written old before ends_old ends_before
      → length before ≡ length old → HasAnswer (get_or rows i d) (Gives x) → end ≡ written + length x
      → (end ≤ length before → now ≡ take written before ++ x ++ drop end before)
      → (i < length ends_old → ends ≡ set ends_before i end)
      → AreWritten HasAnswer (take (i + 1) rows) end old now ends_old ends
  row_written rows i d written end old before now ends_old ends_before ends x h so_far same given at put is_set =
      record {
        bytes = so_far.bytes ++ x;
        outputs_end = so_far.outputs_end ++ end ∷ [];
        are = one_more rows i d so_far.bytes so_far.outputs_end x end h so_far.are given
            (omega (arith, so_far.counted));
        counted = omega (arith, so_far.counted, length-append so_far.bytes x);
        put = put_more;
        ended = end_more;
      }
    where
      put_more : end ≤ length old → now ≡ (so_far.bytes ++ x) ++ drop end old
      put_more fits =
          let was : before ≡ so_far.bytes ++ drop written old = so_far.put (omega arith) in
          let front : take written before ≡ so_far.bytes =
          ap (take written) was ∙ take_at so_far.bytes (drop written old) written (sym so_far.counted) in
          let back : drop end before ≡ drop end old =
          ap (drop end) was
          ∙ drop-append-drop written old so_far.bytes end (omega arith) (sym so_far.counted) in
          put (omega arith) ∙ ap (λ l. l ++ x ++ drop end before) front
          ∙ ap (λ l. so_far.bytes ++ x ++ l) back

      many : length (take i rows) ≡ i
      many = length-take-le i rows (omega arith)

      counted : length so_far.outputs_end ≡ i
      counted = as_many (take i rows) so_far.bytes so_far.outputs_end so_far.are ∙ many

      end_more : length (take (i + 1) rows) ≤ length ends_old
          → ends ≡ (so_far.outputs_end ++ end ∷ []) ++ drop (length (take (i + 1) rows)) ends_old
      end_more fits =
          let more : length (take (i + 1) rows) ≡ i + 1 = length-take-le (i + 1) rows (omega arith) in
          let was : ends_before ≡ so_far.outputs_end ++ drop i ends_old =
          so_far.ended (omega (arith, many, more)) ∙ ap (λ n. so_far.outputs_end ++ drop n ends_old) many in
          let cut : drop i ends_old ≡ get_or ends_old i end ∷ drop (i + 1) ends_old =
          drop_more ends_old i end (omega (arith, more)) in
          is_set (omega (arith, more))
          ∙ ap (λ l. set l i end) (was ∙ ap (λ l. so_far.outputs_end ++ l) cut)
          ∙ set_at so_far.outputs_end (get_or ends_old i end) (drop (i + 1) ends_old) end i counted
          ∙ sym (append_assoc so_far.outputs_end (end ∷ []) (drop (i + 1) ends_old))
          ∙ ap (λ n. (so_far.outputs_end ++ end ∷ []) ++ drop n ends_old) (sym more)

  module _ (s : List ℕ) (rows : List ValueRow) (i written row : ℕ) (old new ends_old ends : List ℕ)
      (told : FaultRecord) (all : length rows ≤ i)
      (so_far : AreWritten HasAnswer (take i rows) written old new ends_old ends) where
    -- the rows before the index are all rows
    written_all : AreWritten HasAnswer rows written old new ends_old ends
    written_all = subst (λ r. AreWritten HasAnswer r written old new ends_old ends) (take_all i rows all) so_far

    -- the outputs and their ends are written to a buffer and to `ends`, which are long enough
    pub rows_whole : written ≤ length old → length rows ≤ length ends_old
        → ExpandsEach HasAnswer s rows DONE written row old new ends_old ends told told
    rows_whole fits ends_fit =
        let it = written_all in
        let many = as_many rows it.bytes it.outputs_end it.are in
        record {
          done = λ is. (
            it.outputs_end,
            record { items = it.bytes; wanted = it.are; counted = it.counted; put = it.put fits },
            it.ended ends_fit ∙ ap (λ n. it.outputs_end ++ drop n ends_old) (sym many),
          );
          too_small = λ is. cc;
          fault = record { refused = λ is. cc; within = λ is. cc; fault_kept = λ other. refl };
        }

    -- the outputs are longer than the buffer, or there are more of them than `ends` has elements
    pub rows_too_long : (length old < written) ⊎ (length ends_old < length rows)
        → ExpandsEach HasAnswer s rows ROOM_TOO_SMALL written row old new ends_old ends told told
    rows_too_long longer =
        let it = written_all in
        record {
          done = λ is. cc;
          too_small = λ is. (it.bytes, it.outputs_end, it.are, it.counted, of longer);
          fault = record { refused = λ is. cc; within = λ is. cc; fault_kept = λ other. refl };
        }
      where
        of : (length old < written) ⊎ (length ends_old < length rows)
            → (length old < written) ⊎ (length ends_old < length written_all.outputs_end)
        of (inl long) = inl long
        of (inr many) =
            inr (omega (arith, as_many rows written_all.bytes written_all.outputs_end written_all.are))

-- an expansion that stopped is neither done nor too long
stops_short : (stop : Stop) → (stop_number stop ≢ DONE) × (stop_number stop ≢ ROOM_TOO_SMALL)
stops_short (stops.Full failed) = (λ is. cc, λ is. cc)
stops_short (stops.Missing name) = (λ is. cc, λ is. cc)
stops_short (stops.Asks number) = (λ is. cc, λ is. cc)
stops_short stops.NotATemplate = (λ is. cc, λ is. cc)

module _ (cells : List Cell) (s : List ℕ) (rows : List ValueRow) (i : ℕ) (d : ValueRow) where
  -- the row at the index
  abbrev pub here : ValueRow
  here = get_or rows i d

  -- the expansion with the row at an index stopped, after outputs of the rows before it
  pub row_stopped : {T : Type 0} (is_unasked : ℕ → Type 0) (P : T → List ℕ → Type 0) (stop : Stop)
      (row written needed : ℕ) (before old new ends_before ends_old ends : List ℕ) (told : FaultRecord)
      → i < length rows → AreWritten (under_values cells s) (take i rows) written old before ends_old ends_before
      → IsOutcome is_unasked (template_expansion cells s (given_values here.values.now)) (Err stop) P
      → IsHarmless s (given_values here.values.now) cells
      (template_expansion cells s (given_values here.values.now)) → (stop_number stop ≡ REFUSED → row ≡ i)
      → ExpandsEach (under_values cells s) s rows (stop_number stop) needed row old new ends_old ends told
      (stop_fault stop told)
  row_stopped is_unasked P stop row written needed before old new ends_before ends_old ends told h so_far outcome
      harmless counted =
      let values = given_values here.values.now in
      let it = expands_stopped cells s values is_unasked P stop needed old new told outcome harmless in
      record {
        done = λ is. absurd ((stops_short stop).0 is);
        too_small = λ is. absurd ((stops_short stop).1 is);
        fault = record {
          refused = λ is.
              let (f, of, states) = it.fault.refused is in (
                f,
                subst (λ n. RefusesAt (under_values cells s) rows n f) (sym (counted is))
                    (refused_at (under_values cells s) rows i d f h (so_far.are.outputs, so_far.are.given) of),
                states,
              );
          within = it.fault.within;
          fault_kept = it.fault.fault_kept;
        };
      }

module _ (P Q : ValueRow → Answer → Type 0) (so : (row : ValueRow) (a : Answer) → P row a → Q row a) where
  -- outputs of rows by one relation are outputs by each that follows from it
  each_as : (rows : List ValueRow) (outputs : List (List ℕ)) → EachGives P rows outputs → EachGives Q rows outputs
  each_as [] [] h = tt
  each_as (row ∷ rows) (x ∷ outputs) h = (so row (Gives x) h.0, each_as rows outputs h.1)
  each_as [] (x ∷ outputs) h = absurd h
  each_as (row ∷ rows) [] h = absurd h

  -- so are concatenated outputs and their ends
  expansions_as : (rows : List ValueRow) (bytes ends : List ℕ) → AreExpansions P rows bytes ends
      → AreExpansions Q rows bytes ends
  expansions_as rows bytes ends are = record {
    outputs = are.outputs;
    given = each_as rows are.outputs are.given;
    joined = are.joined;
    ended = are.ended;
  }

  -- a first refusal by one relation is one by each that follows from it
  refuses_as : (rows : List ValueRow) (i : ℕ) (f : Fault) → RefusesAt P rows i f → RefusesAt Q rows i f
  refuses_as rows i f at = record {
    before = at.before;
    here = at.here;
    after = at.after;
    cut = at.cut;
    index = at.index;
    given = (at.given.0, each_as at.before at.given.0 at.given.1);
    refused = so at.here (Refuses f) at.refused;
  }

  -- a call that states the answers of rows states them as others too, if each is one of the other kind
  pub expands_each_as : {s : List ℕ} {rows : List ValueRow} {result needed row : ℕ}
      {old new ends_old ends : List ℕ} {told_old told : FaultRecord}
      → ExpandsEach P s rows result needed row old new ends_old ends told_old told
      → ExpandsEach Q s rows result needed row old new ends_old ends told_old told
  expands_each_as {rows = rows} {row = row} it = record {
    done = λ is.
        let (outputs_end, put, ended) = it.done is in
        (outputs_end, put_as (λ x. expansions_as rows x outputs_end) put, ended);
    too_small = λ is.
        let (x, outputs_end, are, counted, longer) = it.too_small is in
        (x, outputs_end, expansions_as rows x outputs_end are, counted, longer);
    fault = record {
      refused = λ is. let (f, at, told) = it.fault.refused is in (f, refuses_as rows row f at, told);
      within = it.fault.within;
      fault_kept = it.fault.fault_kept;
    };
  }
