-- The answers of expanded cells.
use Rattle.std.proofs.Common.{◌≡◌, ◌≢◌, ◌<◌, ◌+◌, ◌-◌, ℕ, List, ◌++◌, drop, length, length-take-le, length-drop, Option, Some, None, Err, IfSome, refl, sym, ap, subst, inr, arith}
use Rattle.subst_error.specs.Fault.{NoSuchVariable}
use Rattle.subst_language.specs.Language.Answer.{Answer, Gives, Refuses}
use Rattle.subst_language.specs.Language.Sentence.{ByTree}
use Rattle.subst_language.specs.Language.Value.{Bytes, Missing, value}
use Rattle.subst_language.specs.Parts.Span.{IsSpan, span_bytes}
use Rattle.subst_language.specs.declared.part.Span.{Span}
use Rattle.subst_indexed.specs.Expansion.{Expansion, Breaks, Values}
use Rattle.subst_indexed.specs.Expansion as expansion
use Rattle.subst_indexed.specs.Laws.{IsHarmless, expansion_value}
use Rattle.subst_indexed.specs.Numbering.{look_of}
use Rattle.subst_indexed.specs.Outcome.{IsOutcome}
use Rattle.subst_indexed.specs.Parsed.{IsCellsOf}
use Rattle.subst_indexed.specs.Slot.{Agree, known_at}
use Rattle.subst_indexed.specs.Template.{template_expansion}
use Rattle.subst_indexed.specs.declared.cell.Cell.{Cell}
use Rattle.subst_indexed.specs.declared.walk.Stop.{Stop}
use Rattle.subst_indexed.specs.declared.walk.Stop.TheVariants as stops
use Rattle.subst_c.proofs.BufferLemmas.{put_as}
use Rattle.subst_c.specs.Expanded.{Expands, stop_fault, stop_number}
use Rattle.subst_c.specs.Fault.{record_of}
use Rattle.subst_c.specs.Values.{AnswersByNumber, CellsAnswer, given_values, or_none, value_known}
use Rattle.subst_c.specs.declared.fault.FaultRecord.{FaultRecord}
use Rattle.subst_c.specs.declared.outcome.TheConstants.{DONE, REFUSED, ROOM_TOO_SMALL}
use Rattle.subst_c.specs.declared.value.Value.{Value}

-- the given values agree with what is known
pub agree_given : (values : List Value) → Agree value_known values (given_values values)
agree_given values = λ number. of (known_at value_known values number)
  where
    of : (found : Option (Option (List ℕ))) → IfSome found (λ v. or_none found ≡ v)
    of (Some v) = refl
    of None = tt

-- the length of a span's bytes
length-span : (s : List ℕ) (span : Span) → IsSpan s span → length (span_bytes span s) ≡ span.end - span.start
length-span s span is =
    length-take-le (span.end - span.start) (drop span.start s)
    (omega (arith, is.ordered, is.within, length-drop span.start s))

-- the record of a missing variable, whose name is in this span of s
missing_record : (s : List ℕ) (name : Span) → IsSpan s name
    → record_of (NoSuchVariable name.start (span_bytes name s))
    ≡ record { kind = 5; position = name.start; length = name.end - name.start }
missing_record s name is =
    let long : name.start + length (span_bytes name s) - name.start ≡ name.end - name.start =
    omega (arith, length-span s name is) in
    ap (λ n. record { kind = 5; position = name.start; length = n }) long

module _ (cells : List Cell) (s : List ℕ) (values : Values) where
  -- the output of cells is written to a buffer that is long enough
  pub expands_whole : (needed : ℕ) (old new : List ℕ) (told : FaultRecord) (x : List ℕ)
      → template_expansion cells s values ≡ expansion.Gives x → needed ≡ length x → new ≡ x ++ drop needed old
      → Expands (CellsAnswer cells s values) s DONE needed old new told told
  expands_whole needed old new told x gives counted put = record {
    done = λ is. record { items = x; wanted = ap (expansion_value s) gives; counted = counted; put = put };
    too_small = λ is. cc;
    fault = record { refused = λ is. cc; within = λ is. cc; fault_kept = λ other. refl };
  }

  -- the output of cells is longer than the buffer
  pub expands_too_long : (needed : ℕ) (old new : List ℕ) (told : FaultRecord) (x : List ℕ)
      → template_expansion cells s values ≡ expansion.Gives x → needed ≡ length x → length old < needed
      → Expands (CellsAnswer cells s values) s ROOM_TOO_SMALL needed old new told told
  expands_too_long needed old new told x gives counted longer = record {
    done = λ is. cc;
    too_small = λ is.
        record { items = x; wanted = ap (expansion_value s) gives; counted = counted; longer = longer };
    fault = record { refused = λ is. cc; within = λ is. cc; fault_kept = λ other. refl };
  }

  -- an expansion that stopped without a missing variable
  stops_elsewhere : (number needed : ℕ) (old new : List ℕ) (told : FaultRecord) → number ≢ DONE
      → number ≢ ROOM_TOO_SMALL → number ≢ REFUSED
      → Expands (CellsAnswer cells s values) s number needed old new told told
  stops_elsewhere number needed old new told a b c = record {
    done = λ is. absurd (a is);
    too_small = λ is. absurd (b is);
    fault = record { refused = λ is. absurd (c is); within = λ is. absurd (c is); fault_kept = λ other. refl };
  }

  -- an expansion of cells stopped
  pub expands_stopped : {T : Type 0} (is_unasked : ℕ → Type 0) (P : T → List ℕ → Type 0) (stop : Stop)
      (needed : ℕ) (old new : List ℕ) (told : FaultRecord)
      → IsOutcome is_unasked (template_expansion cells s values) (Err stop) P
      → IsHarmless s values cells (template_expansion cells s values)
      → Expands (CellsAnswer cells s values) s (stop_number stop) needed old new told (stop_fault stop told)
  expands_stopped is_unasked P (stops.Full e) needed old new told outcome harmless =
      stops_elsewhere 4 needed old new told (λ is. cc) (λ is. cc) (λ is. cc)
  expands_stopped is_unasked P (stops.Missing name) needed old new told outcome harmless =
      let span : IsSpan s name = subst (IsHarmless s values cells) outcome harmless in
      record {
        done = λ is. cc;
        too_small = λ is. cc;
        fault = record {
          refused = λ is. (
            NoSuchVariable name.start (span_bytes name s),
            (name.start, span_bytes name s, refl, ap (expansion_value s) outcome),
            sym (missing_record s name span),
          );
          within = λ is. omega (arith, span.ordered, span.within);
          fault_kept = λ other. absurd (other refl);
        };
      }
  expands_stopped is_unasked P (stops.Asks number) needed old new told outcome harmless =
      stops_elsewhere 11 needed old new told (λ is. cc) (λ is. cc) (λ is. cc)
  expands_stopped is_unasked P stops.NotATemplate needed old new told outcome harmless =
      stops_elsewhere 10 needed old new told (λ is. cc) (λ is. cc) (λ is. cc)

-- an expansion that stopped with this number asks for a value, or its cells are no template
module _ {T : Type 0} (is_unasked : ℕ → Type 0) (e : Expansion) (P : T → List ℕ → Type 0) where
  pub stop_breaks : (stop : Stop) → IsOutcome is_unasked e (Err stop) P → stop_number stop ≡ 10 → e ≡ Breaks
  stop_breaks stops.NotATemplate outcome is = outcome
  stop_breaks (stops.Full failed) outcome is = cc
  stop_breaks (stops.Missing name) outcome is = cc
  stop_breaks (stops.Asks number) outcome is = cc

  pub stop_asks : (stop : Stop) → IsOutcome is_unasked e (Err stop) P → stop_number stop ≡ 11
      → (number : ℕ) × is_unasked number
  stop_asks (stops.Asks number) outcome is = (number, outcome)
  stop_asks stops.NotATemplate outcome is = cc
  stop_asks (stops.Full failed) outcome is = cc
  stop_asks (stops.Missing name) outcome is = cc

-- a call that states an answer states it as another too, if each such answer is one of the other kind
pub expands_as : {P Q : Answer → Type 0} {s : List ℕ} {result needed : ℕ} {old new : List ℕ}
    {told_old told : FaultRecord} → ((a : Answer) → P a → Q a)
    → Expands P s result needed old new told_old told → Expands Q s result needed old new told_old told
expands_as so it = record {
  done = λ is. put_as (λ x. so (Gives x)) (it.done is);
  too_small = λ is.
      let long = it.too_small is in record {
        items = long.items;
        wanted = so (Gives long.items) long.wanted;
        counted = long.counted;
        longer = long.longer;
      };
  fault = record {
    refused = λ is. let (f, of, told) = it.fault.refused is in (f, so (Refuses f) of, told);
    within = it.fault.within;
    fault_kept = it.fault.fault_kept;
  };
}

module _ (cells : List Cell) (s : List ℕ) (names : List (List ℕ)) (values : Values) (is : IsCellsOf s names cells)
    (law : ByTree s (λ t. expansion_value s (template_expansion cells s values)
    ≡ Some (value 0 t (look_of names values)))) where
  -- the answers of a source's cells are those of the source
  pub answers_by_number : (a : Answer) → CellsAnswer cells s values a → AnswersByNumber s names values a
  answers_by_number (Gives x) gives =
      let t = is.template.tree in
      let spells = is.template.spells in
      let v = law t spells in
      let same : value 0 t (look_of names values) ≡ Bytes x = cc in
      (t, spells, same)
  answers_by_number (Refuses f) (position, name, states, missing) =
      let t = is.template.tree in
      let spells = is.template.spells in
      let v = law t spells in
      let same : value 0 t (look_of names values) ≡ Missing position name = cc in
      inr (t, spells, (position, name, same, states))

  -- they are a template
  pub never_breaks : template_expansion cells s values ≡ Breaks → ⊥
  never_breaks breaks =
      let v = law is.template.tree is.template.spells in
      let none : expansion_value s (template_expansion cells s values) ≡ None = ap (expansion_value s) breaks in
      cc
