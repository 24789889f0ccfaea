-- From the output of parts to the outcome of an expansion.
use Rattle.std.proofs.Common.{◌≡◌, ◌≤◌, ◌<◌, ℕ, ◌+◌, List, ◌++◌, Option, IfNone, IfSome, Ok, Err, Vec, Global, length, take, refl, ◌∙◌, subst}
use Rattle.std.proofs.Math.Seq.{take-append_seam}
use Rattle.std.specs.Prelude.{vec_capacity, vec_len}
use Rattle.subst_error.specs.ErrorFault.{expand_into_fault}
use Rattle.subst_error.specs.declared.borrowed.ExpandIntoError.{ExpandIntoError}
use Rattle.subst_language.specs.Language.Answer.{IsMissing}
use Rattle.subst_language.specs.Language.Name.{IsName}
use Rattle.subst_expand.specs.Context.{Context, ByContext, context_of}
use Rattle.subst_expand.specs.Expansion.{ExpandsParts, IsExpansion}
use Rattle.subst_expand.specs.Filled.{marks_of}
use Rattle.subst_expand.specs.Output.{IfMissing, fault_of}
use Rattle.subst_language.specs.Parts.Meaning.{IsTemplateOf, parts_value, parts_written}
use Rattle.subst_language.specs.Parts.Span.{IsSpan, span_bytes}
use Rattle.subst_expand.specs.Writer.{AtFirst, HoldsParts}
use Rattle.subst_expand.specs.Writing.{WritesParts, StopsInParts, HasWritten, NotStopped}
use Rattle.subst_expand.specs.declared.expand.Stop.{Stop}
use Rattle.subst_expand.specs.declared.expand.Stop.TheVariants.{Full}
use Rattle.subst_expand.specs.declared.expand.Stop.TheVariants as stop
use Rattle.subst_language.specs.declared.part.Part.{Part}
use Rattle.subst_expand.specs.declared.writer.State.{State}
use Rattle.subst_expand.specs.declared.writer.State.TheVariants.{Writing, Jumping, Stopped}
use Rattle.subst_language.proofs.PartsLemmas.{closed_of_fit}
use Rattle.subst_expand.proofs.WriterLemmas.{begun, none_jumped, stopped_whole}

-- the context of a map and a `Vec`
abbrev pub into_vec : {V Seen : Type 0} → (V → List ℕ) → (List ℕ → Type 0) → (V → Seen)
    → (List ℕ → Option Seen) → Context V Seen (Vec ℕ Global) (Unit {0})
into_vec read is_read see look_up =
    context_of read is_read see look_up (λ output _ x. output.items ≡ x) vec_len vec_capacity

-- the clauses of an error that states where an expansion stopped
pub record StatesStop {V Seen W First : Type 0} (context : Context V Seen W First) (s : List ℕ)
    (parts : List Part) (before : W) (e : ExpandIntoError) : Type 0 where
  pub value : ByContext context (λ look. IfSome (expand_into_fault e) (IsMissing (parts_value parts s look)))
  pub full : ByContext context (λ look. IfNone (expand_into_fault e)
      (context.capacity before < context.len before + length (parts_written parts s look)))
  pub missing : IfSome (expand_into_fault e) (IsMissing (parts_value parts s (marks_of context.look_up)))

module _ {V Seen W First : Type 0} (context : Context V Seen W First) (s : List ℕ) (parts : List Part)
    (before after : W) where
  pub states_stop : (stopped : Stop) (e : ExpandIntoError) → StopsInParts context s stopped parts before after
      → expand_into_fault e ≡ fault_of stopped s → StatesStop context s parts before e
  states_stop (Full x) e stops fault = record {
    value = λ bytes reads. rw fault tt;
    full = λ bytes reads. rw fault (stops.at bytes reads);
    missing = rw fault tt;
  }
  states_stop (stop.Missing name) e stops fault = record {
    value = λ bytes reads. rw fault (_, _, stops.at.0 bytes reads, refl);
    full = λ bytes reads. rw fault tt;
    missing = rw fault (_, _, stops.at.1, refl);
  }

  -- the name of a missing variable is one in the source
  pub named_stop : (stopped : Stop) → StopsInParts context s stopped parts before after
      → IfMissing (Err stopped) (λ name. IsSpan s name × IsName (span_bytes name s))
  named_stop (Full e) stops = tt
  named_stop (stop.Missing name) stops = (stops.at.2, stops.at.3)

module _ {V Seen : Type 0} (read : V → List ℕ) (is_read : List ℕ → Type 0) (see : V → Seen)
    (look_up : List ℕ → Option Seen) (s : List ℕ) (parts : List Part) (before after : Vec ℕ Global) where
  abbrev of_vec : Context V Seen (Vec ℕ Global) (Unit {0})
  of_vec = into_vec read is_read see look_up

  -- the whole output was written to a `Vec`
  pub expanded : WritesParts of_vec s parts before after
      → ExpandsParts read is_read see look_up s parts before.items after.items (vec_capacity before)
      (vec_len before) (Ok tt)
  expanded written = record {
    value = λ bytes reads.
        let given = written.given bytes reads in
        (given.appended, given.given, given.puts tt before.items refl);
    kept = tt;
    full = λ bytes reads. tt;
    filled = (written.filled.appended, written.filled.given, written.filled.puts tt before.items refl);
    missing = tt;
  }

  -- writing stopped, and the items are unchanged
  pub expanded_until : (stopped : Stop) (e : ExpandIntoError) (items : List ℕ)
      → StopsInParts of_vec s stopped parts before after → expand_into_fault e ≡ fault_of stopped s
      → items ≡ before.items
      → ExpandsParts read is_read see look_up s parts before.items items (vec_capacity before)
      (vec_len before) (Err e)
  expanded_until stopped e items stops fault kept =
      let states = states_stop of_vec s parts before after stopped e stops fault in
      record {
        value = states.value;
        kept = kept;
        full = states.full;
        filled = tt;
        missing = states.missing;
      }

-- A writer to a `Vec` holds these parts, and has its first source and map.
module _ {V Seen : Type 0} (read : V → List ℕ) (is_read : List ℕ → Type 0) (see : V → Seen)
    (look_up : List ℕ → Option Seen) (s : List ℕ) (n : ℕ) (state : State) (now written : Vec ℕ Global)
    (same : written ≡ now) (first : AtFirst Seen (Vec ℕ Global)) (parts : List Part)
    (held : HoldsParts (into_vec read is_read see look_up) s n state now first parts) where
  begun_since : (x : List ℕ) × (written.items ≡ first.output.items ++ x)
      × (vec_capacity first.output ≤ vec_capacity written)
  begun_since =
      let (begins, capacity) = begun (into_vec read is_read see look_up) s state first.output now parts
      held.written in
      rw same (begins.appended, begins.puts tt first.output.items refl, capacity)

  -- its capacity only grew
  pub room_since : vec_capacity first.output ≤ vec_capacity written
  room_since = let (x, begins, capacity) = begun_since in capacity

  -- cut to its first length, it has its first items
  pub cut_back : {items : List ℕ} {len : ℕ} → items ≡ take len written.items
      → len ≡ length first.output.items → items ≡ first.output.items
  cut_back is long =
      let (x, begins, capacity) = begun_since in
      is ∙ rw (begins, long) (take-append_seam first.output.items x)

  has_written : HasWritten (into_vec read is_read see first.look_up) first.source state first.output written
      parts
  has_written =
      subst (λ f. HasWritten (into_vec read is_read see f) first.source state first.output written parts)
      held.map
      (subst (λ x. HasWritten (into_vec read is_read see look_up) x state first.output written parts)
      held.source (rw same held.written))

  has_stopped : {stopped : Stop} → state ≡ Stopped stopped
      → StopsInParts (into_vec read is_read see first.look_up) first.source stopped parts first.output written
  has_stopped {stopped} is =
      let context = into_vec read is_read see first.look_up in
      stopped_whole context first.source stopped first.output written parts
      (subst (λ st. HasWritten context first.source st first.output written parts) is has_written)

  -- if it stopped at a missing variable, the name is one in the source
  pub named_since : {stopped : Stop} → state ≡ Stopped stopped
      → IfMissing (Err stopped) (λ name. IsSpan first.source name × IsName (span_bytes name first.source))
  named_since {stopped} is =
      named_stop (into_vec read is_read see first.look_up) first.source parts first.output written stopped
      (has_stopped is)

  module _ (template : IsTemplateOf first.source parts) where
    all_written : (state : State) → NotStopped state
        → HasWritten (into_vec read is_read see first.look_up) first.source state first.output written parts
        → WritesParts (into_vec read is_read see first.look_up) first.source parts first.output written
    all_written Writing going writing = writing.written
    all_written (Jumping index) going jumping =
        absurd (none_jumped (into_vec read is_read see first.look_up) first.source index first.output written
        parts
        _
        (closed_of_fit _ _ first.source parts template.mean.fit) jumping)
    all_written (Stopped stopped) going stops = absurd going

    -- it hasn't stopped
    pub expanded_since : NotStopped state
        → IsExpansion read is_read see first.look_up first.source first.output.items written.items
        (vec_capacity first.output) (vec_len first.output) (Ok tt)
    expanded_since going = record {
      parts = parts;
      template = template;
      expands = expanded read is_read see first.look_up first.source parts first.output written
          (all_written state going has_written);
    }

    -- it has, and the items are unchanged
    pub failed_since : {stopped : Stop} → state ≡ Stopped stopped → (e : ExpandIntoError) {items : List ℕ}
        → expand_into_fault e ≡ fault_of stopped first.source → items ≡ first.output.items
        → IsExpansion read is_read see first.look_up first.source first.output.items items
        (vec_capacity first.output) (vec_len first.output) (Err e)
    failed_since {stopped} is e {items} fault kept = record {
      parts = parts;
      template = template;
      expands = expanded_until read is_read see first.look_up first.source parts first.output written stopped
          e items (has_stopped is) fault kept;
    }
