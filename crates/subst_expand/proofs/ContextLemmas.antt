-- The output of single parts.
use Rattle.std.proofs.Common.{◌≡◌, ◌≤◌, ◌<◌, ℕ, ◌+◌, List, [], ◌∷◌, length, map, append-nil, refl, sym, ap, ◌∙◌, subst, arith}
use Rattle.std.specs.declared.alloc.AllocError.{AllocError}
use Rattle.subst_language.specs.Language.LookUp.{LookUp}
use Rattle.subst_language.specs.Language.Name.{IsName}
use Rattle.subst_language.specs.Language.Steps.{Own, Given, steps_value}
use Rattle.subst_language.specs.Language.Value.{Bytes, Missing, joined}
use Rattle.subst_language.specs.Language.Written.{steps_written}
use Rattle.subst_language.specs.Calls.VariableMap.{look_up_of}
use Rattle.subst_language.proofs.Language.StepsLemmas.{written_whole}
use Rattle.subst_expand.specs.Filled.{mark, marks_of, IsFilled, FillsMarks}
use Rattle.subst_expand.specs.Filled.IsFilled.{empty, filled}
use Rattle.subst_expand.specs.Output.{Puts}
use Rattle.subst_language.specs.Parts.Meaning.{part_steps}
use Rattle.subst_language.specs.Parts.Span.{IsSpan, span_bytes}
use Rattle.subst_expand.specs.Context.{Context, ByContext, WritesPart, StopsAtPart}
use Rattle.subst_expand.specs.declared.expand.Stop.TheVariants.{Full}
use Rattle.subst_expand.specs.declared.expand.Stop.TheVariants as stop
use Rattle.subst_language.specs.declared.part.Span.{Span}
use Rattle.subst_language.specs.declared.part.Part.{Part}
use Rattle.subst_expand.proofs.FilledLemmas.{all_kept}
use Rattle.subst_expand.proofs.OutputLemmas.{nothing_appended}

-- one mark replaced
fills_one : {Passes : List ℕ → Type 0} (x : List ℕ) → Passes x → IsFilled Passes (mark ∷ []) x
fills_one {Passes} x passes = subst (IsFilled Passes (mark ∷ [])) (append-nil x) (filled x passes empty)

-- the value of plain bytes as steps is these bytes
own_value : (x : List ℕ) → steps_value (map Own x) ≡ Bytes x
own_value [] = refl
own_value (b ∷ x) = ap (joined (Bytes (b ∷ []))) (own_value x)

-- and as many are written
pub own_length : (x : List ℕ) → length (steps_written (map Own x)) ≡ length x
own_length x = ap length (written_whole (map Own x) x (own_value x))

module _ {V Seen W First : Type 0} (context : Context V Seen W First) (s : List ℕ) (part : Part) (x : List ℕ)
    (before after : W) (puts : Puts context.holds before x after)
    (long : context.len after ≡ context.len before + length x)
    (capacity : context.capacity before ≤ context.capacity after) where
  -- a part whose value is these bytes, whatever the map, writes them
  writes_bytes : ByContext context (λ look. steps_value (part_steps part s look) ≡ Bytes x)
      → FillsMarks context.is_read (steps_value (part_steps part s (marks_of context.look_up))) x
      → WritesPart context s part before after
  writes_bytes gives fills = record {
    given = λ bytes reads. record { appended = x; puts = puts; given = gives bytes reads };
    filled = record { appended = x; puts = puts; given = fills };
    long = λ bytes reads.
        let own = part_steps part s (look_up_of bytes context.look_up) in
        omega (arith, long, ap length (written_whole own x (gives bytes reads)));
    capacity = capacity;
  }

  -- bytes of the source, or an escaped byte
  pub writes_own : ((look : LookUp) → part_steps part s look ≡ map Own x)
      → WritesPart context s part before after
  writes_own owns = writes_bytes (λ bytes reads. ap steps_value (owns _) ∙ own_value x) record {
    marked = x;
    given = ap steps_value (owns (marks_of context.look_up)) ∙ own_value x;
    filled = all_kept x;
  }

  -- a found value
  pub writes_value : ByContext context (λ look. part_steps part s look ≡ Given x ∷ [])
      → part_steps part s (marks_of context.look_up) ≡ Given (mark ∷ []) ∷ [] → context.is_read x
      → WritesPart context s part before after
  writes_value gives marked passes =
      writes_bytes (λ bytes reads. ap steps_value (gives bytes reads) ∙ ap Bytes (append-nil x)) record {
        marked = mark ∷ [];
        given = ap steps_value marked;
        filled = fills_one x passes;
      }

-- a part without steps writes nothing
pub writes_nothing : {V Seen W First : Type 0} (context : Context V Seen W First) (s : List ℕ) (part : Part)
    (output : W)
    → ByContext context (λ look. part_steps part s look ≡ [])
    → part_steps part s (marks_of context.look_up) ≡ [] → WritesPart context s part output output
writes_nothing context s part output none marked =
    writes_bytes context s part [] output output
    (λ first x before. subst (context.holds output first) (sym (append-nil x)) before) (omega arith)
    (omega arith)
    (λ bytes reads. ap steps_value (none bytes reads))
    record { marked = []; given = ap steps_value marked; filled = empty }

module _ {V Seen W First : Type 0} (context : Context V Seen W First) (s : List ℕ) (part : Part) (x : List ℕ)
    (before after : W) (e : AllocError) (puts : Puts context.holds before [] after)
    (full : context.capacity before < context.len before + length x)
    (capacity : context.capacity before ≤ context.capacity after) where
  -- if the capacity is too small for the bytes of a part, writing stops at it
  stops_full : ByContext context (λ look. steps_value (part_steps part s look) ≡ Bytes x)
      → StopsAtPart context s part (Full e) before after
  stops_full gives = record {
    begins = record { appended = []; puts = puts; given = tt };
    at = λ bytes reads.
        let own = part_steps part s (look_up_of bytes context.look_up) in
        omega (arith, full, ap length (written_whole own x (gives bytes reads)));
    capacity = capacity;
  }

  -- for bytes of the source, or an escaped byte
  pub stops_at_own : ((look : LookUp) → part_steps part s look ≡ map Own x)
      → StopsAtPart context s part (Full e) before after
  stops_at_own owns = stops_full (λ bytes reads. ap steps_value (owns _) ∙ own_value x)

  -- for a found value
  pub stops_at_value : ByContext context (λ look. part_steps part s look ≡ Given x ∷ [])
      → StopsAtPart context s part (Full e) before after
  stops_at_value gives =
      stops_full (λ bytes reads. ap steps_value (gives bytes reads) ∙ ap Bytes (append-nil x))

-- if a part needs a variable that is missing, writing stops at it
pub stops_missing : {V Seen W First : Type 0} (context : Context V Seen W First) (s : List ℕ) (part : Part)
    (name : Span) (output : W)
    → ByContext context
    (λ look. steps_value (part_steps part s look) ≡ Missing name.start (span_bytes name s))
    → steps_value (part_steps part s (marks_of context.look_up)) ≡ Missing name.start (span_bytes name s)
    → IsSpan s name × IsName (span_bytes name s)
    → StopsAtPart context s part (stop.Missing name) output output
stops_missing context s part name output gives marked named = record {
  begins = nothing_appended _ output tt;
  at = (gives, marked, named.0, named.1);
  capacity = omega arith;
}
