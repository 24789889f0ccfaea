-- The output of parts, one after the other.
use Rattle.std.proofs.Common.{◌≡◌, ◌≤◌, ◌<◌, ℕ, ◌+◌, List, [], ◌∷◌, ◌++◌, length, Option, Some, None, IfSome, inl, inr, append-nil, length-append, refl, sym, ap, ◌∙◌, subst, arith}
use Rattle.std.proofs.lemmas.Bool.{cases_lt}
use Rattle.std.specs.Option.{option_map}
use Rattle.subst_language.specs.Language.LookUp.{LookUp}
use Rattle.subst_language.specs.Language.Steps.{Step, steps_value}
use Rattle.subst_language.specs.Language.Value.{Value, joined}
use Rattle.subst_language.specs.Language.Written.{steps_written}
use Rattle.subst_language.specs.Calls.VariableMap.{look_up_of}
use Rattle.subst_language.proofs.Language.ListLemmas.{each_append, each_parts, each_weaker}
use Rattle.subst_language.proofs.Language.StepsLemmas.{steps_value-append, steps_written-append, written_front}
use Rattle.subst_expand.specs.Filled.{mark, FillsMarks}
use Rattle.subst_expand.specs.Filled.IsFilled.{empty}
use Rattle.subst_expand.specs.Output.{Appended}
use Rattle.subst_language.specs.Parts.Meaning.{part_steps, steps_in, if_found, resume_index, visited_parts}
use Rattle.subst_language.specs.Parts.Span.{span_bytes}
use Rattle.subst_expand.specs.Context.{Context, StopsAt, Stops, WritesPart, StopsAtPart, jump_of}
use Rattle.subst_expand.specs.Writing.{HasJump, AllHaveJumps, WritesVisited}
use Rattle.subst_expand.specs.declared.expand.Stop.{Stop}
use Rattle.subst_expand.specs.declared.expand.Stop.TheVariants.{Full}
use Rattle.subst_expand.specs.declared.expand.Stop.TheVariants as stop
use Rattle.subst_language.specs.declared.part.Span.{Span}
use Rattle.subst_language.specs.declared.part.Part.{Part}
use Rattle.subst_language.specs.declared.part.Part.TheVariants.{Literal, Escaped, Variable, Default}
use Rattle.subst_expand.proofs.FilledLemmas.{filled_append}
use Rattle.subst_expand.proofs.OutputLemmas.{nothing_appended, more_appended, same_appended}
use Rattle.subst_language.proofs.PartsLemmas.{Lands, visited_parts-before, visited_parts-from, visited_parts-lands, visited_parts-jumped, steps_in-append}

-- a part with its jump resumes at the end of the list or before it
lands_settled : {Seen : Type 0} (look_up : List ℕ → Option Seen) (bytes : Seen → List ℕ) (s : List ℕ)
    (end : ℕ) (part : Part) → HasJump look_up s end part
    → resume_index part s (look_up_of bytes look_up) ≤ end
lands_settled look_up bytes s end (Literal span) settled = omega arith
lands_settled look_up bytes s end (Escaped b) settled = omega arith
lands_settled look_up bytes s end (Variable name) settled = omega arith
lands_settled {Seen} look_up bytes s end (Default name next) settled =
    of (look_up (span_bytes name s)) settled
  where
    of : (found : Option Seen) → IfSome (option_map (λ _. next) found) (λ n. (0 < n) × (n ≤ end))
        → if_found (option_map bytes found) next ≤ end
    of (Some v) settled = settled.1
    of None settled = omega arith

-- so do all
lands_all : {Seen : Type 0} (look_up : List ℕ → Option Seen) (bytes : Seen → List ℕ) (s : List ℕ)
    (end : ℕ) (parts : List Part) → AllHaveJumps look_up s end parts
    → Lands end s (look_up_of bytes look_up) parts
lands_all look_up bytes s end [] settled = tt
lands_all look_up bytes s end (part ∷ rest) settled =
    (lands_settled look_up bytes s end part settled.0, lands_all look_up bytes s end rest settled.1)

-- a part with its jump up to an end has it up to a later one
settled_later : {Seen : Type 0} (look_up : List ℕ → Option Seen) (s : List ℕ) (end later : ℕ) (part : Part)
    → end ≤ later → HasJump look_up s end part → HasJump look_up s later part
settled_later look_up s end later part le settled = of (jump_of look_up s part) settled
  where
    of : (jump : Option ℕ) → IfSome jump (λ next. (0 < next) × (next ≤ end))
        → IfSome jump (λ next. (0 < next) × (next ≤ later))
    of (Some next) settled = (settled.0, omega (arith, le, settled.1))
    of None settled = tt

-- so do all
settled_all : {Seen : Type 0} (look_up : List ℕ → Option Seen) (s : List ℕ) (end later : ℕ)
    (parts : List Part) → end ≤ later → AllHaveJumps look_up s end parts → AllHaveJumps look_up s later parts
settled_all look_up s end later parts le settled =
    each_weaker (HasJump look_up s end) (HasJump look_up s later)
    (λ part. settled_later look_up s end later part le) parts settled

-- with one more part, all have their jumps up to the new end
pub settled_append : {Seen : Type 0} (look_up : List ℕ → Option Seen) (s : List ℕ) (end later : ℕ)
    (parts : List Part) (part : Part) → end ≤ later → AllHaveJumps look_up s end parts
    → HasJump look_up s later part
    → AllHaveJumps look_up s later (parts ++ part ∷ [])
settled_append look_up s end later parts part le settled last =
    each_append (HasJump look_up s later) parts (part ∷ [])
    (settled_all look_up s end later parts le settled) (last, tt)

module _ {Seen : Type 0} (look_up : List ℕ → Option Seen) (bytes : Seen → List ℕ) (s : List ℕ) where
  -- the visited parts of parts with their jumps, of a part, and of more parts
  pub visited_more : (parts : List Part) (part : Part) (rest : List Part)
      → AllHaveJumps look_up s (length parts) parts
      → visited_parts (parts ++ part ∷ rest) 0 0 s (look_up_of bytes look_up)
      ≡ visited_parts parts 0 0 s (look_up_of bytes look_up)
      ++ part ∷ visited_parts rest (length parts + 1) (resume_index part s (look_up_of bytes look_up)) s
      (look_up_of bytes look_up)
  visited_more parts part rest settled =
      let look = look_up_of bytes look_up in
      visited_parts-lands 0 (length parts) 0 s parts (part ∷ rest) look
      (lands_all look_up bytes s (length parts) parts settled) (omega arith) (omega arith)
      ∙ ap (λ visited. visited_parts parts 0 0 s look ++ visited)
      (ap (λ n. visited_parts (part ∷ rest) n 0 s look) (omega arith)
      ∙ visited_parts-from part rest (length parts) 0 s look (omega arith))

-- two values whose marks are replaced, joined
fills_joined : {Passes : List ℕ → Type 0} {v w : Value} {x y : List ℕ} → FillsMarks Passes v x
    → FillsMarks Passes w y → FillsMarks Passes (joined v w) (x ++ y)
fills_joined some more = record {
  marked = some.marked ++ more.marked;
  given = rw (some.given, more.given) refl;
  filled = filled_append some.filled more.filled;
}

-- the steps of parts, a part after them, and the rest
steps_more : (s : List ℕ) (look : LookUp) (xs : List Part) (part : Part) (rest : List Part) {ys : List Part}
    → ys ≡ xs ++ part ∷ rest
    → steps_in ys s look ≡ steps_in xs s look ++ (part_steps part s look ++ steps_in rest s look)
steps_more s look xs part rest more =
    ap (λ (visited : List Part). steps_in visited s look) more ∙ steps_in-append xs (part ∷ rest) s look

-- before the first part nothing was written
pub writes_none : {V Seen W First : Type 0} (context : Context V Seen W First) (s : List ℕ) (output : W)
    → WritesVisited context s (λ _. []) output output
writes_none context s output = record {
  given = λ bytes reads. nothing_appended _ output refl;
  filled = nothing_appended _ output record { marked = []; given = refl; filled = empty };
  long = λ bytes reads. omega arith;
  capacity = omega arith;
}

module _ {V Seen W First : Type 0} (context : Context V Seen W First) (s : List ℕ)
    (xs ys : LookUp → List Part) (part : Part) (first before after : W)
    (so_far : WritesVisited context s xs first before) where
  -- the steps of visited parts, by the reading of the map's values, and those of the part
  abbrev seen : (LookUp → List Part) → (Seen → List ℕ) → List Step
  seen visited bytes =
      let look = look_up_of bytes context.look_up in steps_in (visited look) s look

  abbrev own : (Seen → List ℕ) → List Step
  own bytes = part_steps part s (look_up_of bytes context.look_up)

  -- one more part is written
  pub writes_next : ((bytes : Seen → List ℕ) → ys (look_up_of bytes context.look_up)
      ≡ xs (look_up_of bytes context.look_up) ++ part ∷ [])
      → WritesPart context s part before after → WritesVisited context s ys first after
  writes_next more next = record {
    given = λ bytes reads.
        let one = next.given bytes reads in
        more_appended one.appended (so_far.given bytes reads) one.puts
        (λ x gives. value_next bytes ∙ rw (gives, one.given) refl);
    filled =
        more_appended next.filled.appended so_far.filled next.filled.puts
        (λ x fills. subst (λ v. FillsMarks context.is_read v (x ++ next.filled.appended))
        (sym (value_next (λ _. mark ∷ []))) (fills_joined fills next.filled.given));
    long = λ bytes reads.
        let all = steps_written-append (seen xs bytes) (own bytes) _ (so_far.given bytes reads).given in
        omega (
          arith,
          so_far.long bytes reads,
          next.long bytes reads,
          ap length (ap steps_written (steps_next bytes) ∙ all),
          length-append (steps_written (seen xs bytes)) (steps_written (own bytes)),
        );
    capacity = omega (arith, so_far.capacity, next.capacity);
  }
    where
      steps_next : (bytes : Seen → List ℕ) → seen ys bytes ≡ seen xs bytes ++ own bytes
      steps_next bytes =
          steps_more s (look_up_of bytes context.look_up) _ part [] (more bytes)
          ∙ ap (λ (steps : List Step). seen xs bytes ++ steps) (append-nil (own bytes))

      value_next : (bytes : Seen → List ℕ)
          → steps_value (seen ys bytes) ≡ joined (steps_value (seen xs bytes)) (steps_value (own bytes))
      value_next bytes =
          ap steps_value (steps_next bytes) ∙ steps_value-append (seen xs bytes) (own bytes)

  -- or writing stops at it, whatever follows
  pub stops_next : (rest : LookUp → List Part)
      → ((bytes : Seen → List ℕ) → ys (look_up_of bytes context.look_up)
      ≡ xs (look_up_of bytes context.look_up) ++ part ∷ rest (look_up_of bytes context.look_up))
      → (stopped : Stop) → StopsAtPart context s part stopped before after
      → Stops context s stopped (λ look. steps_in (ys look) s look) first after
  stops_next rest more stopped next = record {
    begins = more_appended next.begins.appended so_far.filled next.begins.puts (λ x fills. tt);
    at = of stopped next.at;
    capacity = omega (arith, so_far.capacity, next.capacity);
  }
    where
      steps_next : (bytes : Seen → List ℕ) → seen ys bytes ≡ seen xs bytes ++ (own bytes ++ seen rest bytes)
      steps_next bytes = steps_more s (look_up_of bytes context.look_up) _ part _ (more bytes)

      value_next : (bytes : Seen → List ℕ) → steps_value (seen ys bytes)
          ≡ joined (steps_value (seen xs bytes))
          (joined (steps_value (own bytes)) (steps_value (seen rest bytes)))
      value_next bytes =
          ap steps_value (steps_next bytes)
          ∙ steps_value-append (seen xs bytes) (own bytes ++ seen rest bytes)
          ∙ ap (joined (steps_value (seen xs bytes))) (steps_value-append (own bytes) (seen rest bytes))

      of : (stopped : Stop) → StopsAt context s stopped (part_steps part s) before
          → StopsAt context s stopped (λ look. steps_in (ys look) s look) first
      of (Full e) full = λ bytes reads.
          let more = own bytes ++ seen rest bytes in
          let all = steps_written-append (seen xs bytes) more _ (so_far.given bytes reads).given in
          omega (
            arith,
            so_far.capacity,
            full bytes reads,
            so_far.long bytes reads,
            ap length (ap steps_written (steps_next bytes) ∙ all),
            length-append (steps_written (seen xs bytes)) (steps_written more),
            written_front (own bytes) (seen rest bytes),
          )
      of (stop.Missing name) missing = (
        λ bytes reads. value_next bytes ∙ rw ((so_far.given bytes reads).given, missing.0 bytes reads) refl,
        value_next (λ _. mark ∷ []) ∙ rw (so_far.filled.given.given, missing.1) refl,
        missing.2,
        missing.3,
      )

-- two lists of visited parts have the same steps
pub record GivesSame (s : List ℕ) (look : LookUp) (xs ys : List Part) : Type 0 where
  pub steps : steps_in xs s look ≡ steps_in ys s look

module _ (s : List ℕ) (look : LookUp) where
  -- lists that equal two such lists
  same_by : {xs ys us vs : List Part} → xs ≡ us → ys ≡ vs → GivesSame s look us vs → GivesSame s look xs ys
  same_by left right same = rw (left, right) same

  -- with a part before
  same_after : (part : Part) {xs ys : List Part} → GivesSame s look xs ys
      → GivesSame s look (part ∷ xs) (part ∷ ys)
  same_after part same = record {
    steps = ap (λ (steps : List Step). part_steps part s look ++ steps) same.steps;
  }

  -- with more parts before
  same_front : (front : List Part) {xs ys : List Part} → GivesSame s look xs ys
      → GivesSame s look (front ++ xs) (front ++ ys)
  same_front [] same = same
  same_front (part ∷ front) same = same_after part (same_front front same)

  -- the visited parts of a default whose name has no value don't depend on its jump
  changed : (before own : List Part) (name : Span) (next other i from : ℕ) → look (span_bytes name s) ≡ None
      → GivesSame s look (visited_parts (before ++ Default name next ∷ own) i from s look)
      (visited_parts (before ++ Default name other ∷ own) i from s look)
  changed [] own name next other i from none =
      elim (cases_lt i from) [
        | inl jumped ↦
            same_by (visited_parts-before (Default name next) own i from s look jumped)
            (visited_parts-before (Default name other) own i from s look jumped)
            record { steps = refl }
        | inr visited ↦
            same_by (here next visited) (here other visited) record { steps = refl }
      ]
    where
      here : (k : ℕ) → from ≤ i → visited_parts (Default name k ∷ own) i from s look
          ≡ Default name k ∷ visited_parts own (i + 1) 0 s look
      here k visited =
          visited_parts-from (Default name k) own i from s look visited
          ∙ ap (λ (o : Option (List ℕ)). Default name k ∷ visited_parts own (i + 1) (if_found o k) s look)
          none
  changed (part ∷ before) own name next other i from none =
      elim (cases_lt i from) [
        | inl jumped ↦
            same_by (visited_parts-before part (before ++ Default name next ∷ own) i from s look jumped)
            (visited_parts-before part (before ++ Default name other ∷ own) i from s look jumped)
            (changed before own name next other (i + 1) from none)
        | inr visited ↦
            same_by (visited_parts-from part (before ++ Default name next ∷ own) i from s look visited)
            (visited_parts-from part (before ++ Default name other ∷ own) i from s look visited)
            (same_after part (changed before own name next other (i + 1) (resume_index part s look) none))
      ]

-- if the outputs of visited parts were written, so were those of others with the same steps
pub writes_same : {V Seen W First : Type 0} (context : Context V Seen W First) (s : List ℕ)
    (xs ys : LookUp → List Part)
    → ((bytes : Seen → List ℕ) → GivesSame s (look_up_of bytes context.look_up)
    (xs (look_up_of bytes context.look_up)) (ys (look_up_of bytes context.look_up)))
    → (first now : W) → WritesVisited context s xs first now → WritesVisited context s ys first now
writes_same context s xs ys same first now written = record {
  given = λ bytes reads. same_appended (written.given bytes reads)
      (λ x gives. ap steps_value (sym (same bytes).steps) ∙ gives);
  filled = subst (λ steps. Appended context.holds (FillsMarks context.is_read (steps_value steps)) first now)
      (same (λ _. mark ∷ [])).steps written.filled;
  long = λ bytes reads. written.long bytes reads
      ∙ ap (λ (steps : List Step). context.len first + length (steps_written steps)) (same bytes).steps;
  capacity = written.capacity;
}

module _ {Seen : Type 0} (look_up : List ℕ → Option Seen) (s : List ℕ) (before own : List Part) (name : Span)
  where
    -- the name of an open default, if all jumps are known, has no value
    pub open_lacks : (end : ℕ) → AllHaveJumps look_up s end (before ++ Default name 0 ∷ own)
        → look_up (span_bytes name s) ≡ None
    open_lacks end settled =
        of (look_up (span_bytes name s)) refl
        (each_parts (HasJump look_up s end) before (Default name 0 ∷ own) settled).1.0
      where
        of : (o : Option Seen) → look_up (span_bytes name s) ≡ o
            → IfSome (option_map {U = ℕ} (λ _. 0) o) (λ n. (0 < n) × (n ≤ end))
            → look_up (span_bytes name s) ≡ None
        of (Some v) is settled = absurd (omega (arith, settled.0))
        of None is settled = is

    -- all jumps stay known when the default gets its own
    pub settled_changed : (end next : ℕ) → look_up (span_bytes name s) ≡ None
        → AllHaveJumps look_up s end (before ++ Default name 0 ∷ own)
        → AllHaveJumps look_up s end (before ++ Default name next ∷ own)
    settled_changed end next none settled =
        let split = each_parts (HasJump look_up s end) before (Default name 0 ∷ own) settled in
        let here : HasJump look_up s end (Default name next) = rw none tt in
        each_append (HasJump look_up s end) before (Default name next ∷ own) split.0 (here, split.1.1)

    -- the steps don't depend on the jump of this default
    pub changed_parts : (next other : ℕ) → look_up (span_bytes name s) ≡ None → (bytes : Seen → List ℕ)
        → GivesSame s (look_up_of bytes look_up)
        (visited_parts (before ++ Default name next ∷ own) 0 0 s (look_up_of bytes look_up))
        (visited_parts (before ++ Default name other ∷ own) 0 0 s (look_up_of bytes look_up))
    changed_parts next other none bytes =
        changed s (look_up_of bytes look_up) before own name next other 0 0 (ap (option_map bytes) none)

    -- if the name of a default has a value, its own parts are skipped
    pub jumped_parts : (next : ℕ) (v : Seen) → AllHaveJumps look_up s (length before) before
        → look_up (span_bytes name s) ≡ Some v → length before + 1 + length own ≤ next
        → (bytes : Seen → List ℕ)
        → GivesSame s (look_up_of bytes look_up)
        (visited_parts (before ++ Default name 0 ∷ []) 0 0 s (look_up_of bytes look_up))
        (visited_parts (before ++ Default name next ∷ own) 0 0 s (look_up_of bytes look_up))
    jumped_parts next v settled found after bytes =
        let look = look_up_of bytes look_up in
        let front = visited_parts before 0 0 s look in
        let jump : visited_parts own (length before + 1) (if_found (look (span_bytes name s)) next) s look
        ≡ [] =
        ap (λ (o : Option (List ℕ)). visited_parts own (length before + 1) (if_found o next) s look)
        (ap (option_map bytes) found)
        ∙ visited_parts-jumped (length before + 1) next s own look after in
        same_by s look (visited_more look_up bytes s before (Default name 0) [] settled)
        (visited_more look_up bytes s before (Default name next) own settled
        ∙ ap (λ (more : List Part). front ++ Default name next ∷ more) jump)
        (same_front s look front record { steps = refl })

-- a jump changes no length
pub same_length : (before own : List Part) (name : Span) (next other : ℕ)
    → length (before ++ Default name next ∷ own) ≡ length (before ++ Default name other ∷ own)
same_length before own name next other =
    length-append before (Default name next ∷ own) ∙ sym (length-append before (Default name other ∷ own))

-- all jumps are known if a default whose name has a value has its jump to the end of its parts
pub settled_jump : {Seen : Type 0} (look_up : List ℕ → Option Seen) (s : List ℕ) (before own : List Part)
    (name : Span) (next : ℕ) (v : Seen) → AllHaveJumps look_up s (length before) before
    → length before ≤ next → 0 < next → AllHaveJumps look_up s next own
    → AllHaveJumps look_up s next (before ++ Default name next ∷ own)
settled_jump {Seen} look_up s before own name next v settled le some after =
    each_append (HasJump look_up s next) before (Default name next ∷ own)
    (settled_all look_up s (length before) next before le settled) (of (look_up (span_bytes name s)), after)
  where
    of : (o : Option Seen) → IfSome (option_map (λ _. next) o) (λ n. (0 < n) × (n ≤ next))
    of (Some w) = (some, omega arith)
    of None = tt
