-- A writer's states, before and after each step.
use Rattle.std.proofs.Common.{◌≡◌, ◌≤◌, ◌<◌, ℕ, ◌+◌, ◌⊎◌, Bool, true, false, List, [], ◌∷◌, ◌++◌, length, Option, Some, None, IfSome, is_some, inl, inr, append-nil, append_assoc, length-append, refl, sym, ap, ◌∙◌, subst, arith}
use Rattle.std.proofs.lemmas.Bool.{false≢true}
use Rattle.std.specs.Option.{option_map}
use Rattle.subst_language.proofs.Language.ListLemmas.{each_parts, each_weaker}
use Rattle.subst_language.specs.Parts.Sink.{IsClosed, AllClosed}
use Rattle.subst_expand.specs.Output.{Appended}
use Rattle.subst_language.specs.Parts.Span.{span_bytes}
use Rattle.subst_language.specs.Parts.Meaning.{resume_index, visited_parts}
use Rattle.subst_expand.specs.Context.{Context, WritesPart, StopsAtPart, jump_of}
use Rattle.subst_expand.specs.Writer.{AtFirst, HoldsParts}
use Rattle.subst_expand.specs.Writing.{HasJump, AllHaveJumps, WritesParts, StopsInParts, IsWriting, IsJumping, HasStopped, HasWritten, PartWritten, WritesOn}
use Rattle.subst_expand.specs.declared.expand.Stop.{Stop}
use Rattle.subst_language.specs.declared.part.Span.{Span}
use Rattle.subst_language.specs.declared.part.Part.{Part}
use Rattle.subst_language.specs.declared.part.Part.TheVariants.{Literal, Escaped, Variable, Default}
use Rattle.subst_expand.specs.declared.writer.State.{State}
use Rattle.subst_expand.specs.declared.writer.State.TheVariants.{Writing, Jumping, Stopped}
use Rattle.subst_expand.proofs.OutputLemmas.{same_appended}
use Rattle.subst_expand.proofs.WritingLemmas.{settled_append, settled_changed, settled_jump, visited_more, open_lacks, same_length, changed_parts, jumped_parts, writes_none, writes_next, stops_next, writes_same}

-- a part of two lists concatenated is in the first one
record IsInFront (xs ys zs : List Part) (z : Part) (ws : List Part) : Type 0 where
  own : List Part
  front : xs ≡ zs ++ z ∷ own
  after : ws ≡ own ++ ys

-- a part of two lists concatenated is in the second one
record IsInBack (xs ys zs : List Part) (z : Part) (ws : List Part) : Type 0 where
  between : List Part
  before : zs ≡ xs ++ between
  back : ys ≡ between ++ z ∷ ws

where_is : (xs ys zs : List Part) (z : Part) (ws : List Part) → xs ++ ys ≡ zs ++ z ∷ ws
    → IsInFront xs ys zs z ws ⊎ IsInBack xs ys zs z ws
where_is [] ys zs z ws same = inr record { between = zs; before = refl; back = same }
where_is (x ∷ xs) ys [] z ws same = inl record { own = xs; front = cc; after = cc }
where_is (x ∷ xs) ys (y ∷ zs) z ws same =
    elim (where_is xs ys zs z ws cc) [
      | inl found ↦
          inl record { own = found.own; front = first (cons_first same) found.front; after = found.after }
      | inr found ↦
          inr record {
            between = found.between;
            before = last (cons_first same) found.before;
            back =
                found.back;
          }
    ]
  where
    cons_first : {x y : Part} {us vs : List Part} → x ∷ us ≡ y ∷ vs → x ≡ y
    cons_first e = cc

    first : {x y : Part} {us vs : List Part} → x ≡ y → us ≡ vs → x ∷ us ≡ y ∷ vs
    first e f = cc

    last : {x y : Part} {us vs : List Part} → x ≡ y → vs ≡ us → y ∷ vs ≡ x ∷ us
    last e f = cc

-- a part among closed ones has its jump
closed_at : (end : ℕ) (xs : List Part) (part : Part) (rest : List Part) → AllClosed end (xs ++ part ∷ rest)
    → IsClosed end part
closed_at end xs part rest closed = (each_parts (IsClosed end) xs (part ∷ rest) closed).1.0

-- an open default isn't among parts with their jumps
none_open : (end : ℕ) (xs : List Part) (name : Span) (rest : List Part)
    → AllClosed end (xs ++ Default name 0 ∷ rest) → ⊥
none_open end xs name rest closed = omega (arith, (closed_at end xs (Default name 0) rest closed).0)

-- a closed part has the jump that an expansion makes
settled_of : {Seen : Type 0} (look_up : List ℕ → Option Seen) (s : List ℕ) (end : ℕ) (part : Part)
    → IsClosed end part → HasJump look_up s end part
settled_of look_up s end (Literal span) closed = tt
settled_of look_up s end (Escaped b) closed = tt
settled_of look_up s end (Variable name) closed = tt
settled_of {Seen} look_up s end (Default name next) closed = of (look_up (span_bytes name s))
  where
    of : (o : Option Seen) → IfSome (option_map (λ _. next) o) (λ n. (0 < n) × (n ≤ end))
    of (Some v) = closed
    of None = tt

-- the list of parts has one more
count_last : (parts : List Part) (part : Part) → length (parts ++ part ∷ []) ≡ length parts + 1
count_last parts part = length-append parts (part ∷ [])

module _ {V Seen W First : Type 0} (context : Context V Seen W First) (s : List ℕ) where
  -- one more part is written
  writes_part : (parts : List Part) (part : Part) (first before now : W)
      → IsWriting context s first before parts → WritesPart context s part before now
      → WritesParts context s (parts ++ part ∷ []) first now
  writes_part parts part first before now writing next =
      writes_next context s (λ look. visited_parts parts 0 0 s look)
      (λ look. visited_parts (parts ++ part ∷ []) 0 0 s look) part first before now writing.written
      (λ bytes. visited_more context.look_up bytes s parts part [] writing.settled) next

  -- a part was written or skipped, or writing stopped at it
  pub took : (part : Part) (old : State) (first before : W) (found : Bool) (state : State) (now : W)
      (parts : List Part)
      → HasWritten context s old first before parts → WritesOn context s part old before found state now
      → (old ≡ Writing → state ≡ Writing → HasJump context.look_up s (length parts + 1) part)
      → HasWritten context s state first now (parts ++ part ∷ [])
  took part Writing first before found Writing now parts writing written settles =
      let one = count_last parts part in
      record {
        settled = subst (λ n. AllHaveJumps context.look_up s n (parts ++ part ∷ [])) (sym one)
            (settled_append context.look_up s (length parts) (length parts + 1) parts part (omega arith)
            writing.settled (settles refl refl));
        written = writes_part parts part first before now writing written.0;
      }
  took part Writing first before found (Jumping index) now parts writing written settles = absurd written
  took part Writing first before found (Stopped stopped) now parts writing written settles = record {
    done = parts;
    part = part;
    rest = [];
    splits = refl;
    settled = writing.settled;
    before = before;
    written = writing.written;
    stops = written.0;
  }
  took part (Jumping index) first before found state now parts jumping written settles =
      subst (λ st. HasWritten context s st first now (parts ++ part ∷ [])) (sym written.0)
      (subst (λ w. IsJumping context s index first w (parts ++ part ∷ [])) (sym written.1) (record {
        before = jumping.before;
        name = jumping.name;
        own = jumping.own ++ part ∷ [];
        splits = ap (λ (ps : List Part). ps ++ part ∷ []) jumping.splits
            ∙ append_assoc jumping.before (Default jumping.name 0 ∷ jumping.own) (part ∷ []);
        is = jumping.is;
        settled = jumping.settled;
        value = jumping.value;
        found = jumping.found;
        written = jumping.written;
      }))
  took part (Stopped stopped) first before found state now parts has_stopped written settles =
      subst (λ st. HasWritten context s st first now (parts ++ part ∷ [])) (sym written.0)
      (subst (λ w. HasStopped context s stopped first w (parts ++ part ∷ [])) (sym written.1) (record {
        done = has_stopped.done;
        part = has_stopped.part;
        rest = has_stopped.rest ++ part ∷ [];
        splits = ap (λ (ps : List Part). ps ++ part ∷ []) has_stopped.splits
            ∙ append_assoc has_stopped.done (has_stopped.part ∷ has_stopped.rest) (part ∷ []);
        settled = has_stopped.settled;
        before = has_stopped.before;
        written = has_stopped.written;
        stops = has_stopped.stops;
      }))

  -- a default whose name has a value opens: the value was written
  pub jumped : (name : Span) (old : State) (first before : W) (state : State) (now : W) (parts : List Part)
      → HasWritten context s old first before parts
      → WritesOn context s (Default name 0) old before true state now
      → IsJumping context s (length parts) first now (parts ++ Default name 0 ∷ [])
  jumped name Writing first before Writing now parts writing written =
      of (context.look_up (span_bytes name s)) refl
    where
      of : (found : Option Seen) → context.look_up (span_bytes name s) ≡ found
          → IsJumping context s (length parts) first now (parts ++ Default name 0 ∷ [])
      of (Some v) is = record {
        before = parts;
        name = name;
        own = [];
        splits = refl;
        is = refl;
        settled = writing.settled;
        value = v;
        found = is;
        written =
            writes_part parts (Default name 0) first before now writing written.0;
      }
      of None is =
          absurd (false≢true (sym (subst (λ (found : Option Seen). true
          ≡ is_some {T = ℕ} (option_map (λ _. 0) found)) is written.1)))
  jumped name Writing first before (Jumping index) now parts writing written = absurd written
  jumped name Writing first before (Stopped stopped) now parts writing written =
      absurd (false≢true (sym written.1))
  jumped name (Jumping index) first before state now parts jumping written =
      absurd (false≢true (sym written.2))
  jumped name (Stopped stopped) first before state now parts has_stopped written =
      absurd (false≢true (sym written.2))

  -- a default whose name has no value makes no jump, so it needs none yet
  pub open_settled : (name : Span) (end : ℕ) (before now : W) (found : Bool) → found ≡ false
      → PartWritten context s (Default name 0) before found Writing now
      → HasJump context.look_up s end (Default name 0)
  open_settled name end before now found is written =
      of (jump_of context.look_up s (Default name 0)) written.1
    where
      of : (jump : Option ℕ) → found ≡ is_some jump → IfSome jump (λ next. (0 < next) × (next ≤ end))
      of (Some next) told = absurd (false≢true (sym is ∙ told))
      of None told = tt

  -- the innermost default closes, while the writer writes: its name has no value
  pub closed_writing : (first now : W) (before own : List Part) (name : Span) (next : ℕ)
      → IsWriting context s first now (before ++ Default name 0 ∷ own)
      → IsWriting context s first now (before ++ Default name next ∷ own)
  closed_writing first now before own name next writing =
      let parts = before ++ Default name 0 ∷ own in
      let others = before ++ Default name next ∷ own in
      let none = open_lacks context.look_up s before own name (length parts) writing.settled in
      record {
        settled = subst (λ n. AllHaveJumps context.look_up s n others) (same_length before own name 0 next)
            (settled_changed context.look_up s before own name (length parts) next none writing.settled);
        written = writes_same context s (λ look. visited_parts parts 0 0 s look)
            (λ look. visited_parts others 0 0 s look)
            (changed_parts context.look_up s before own name 0 next none) first now writing.written;
      }

  -- while the writer is inside it, as its name has a value: it writes again
  pub closed_jump : (index : ℕ) (first now : W) (before own : List Part) (name : Span) → index ≡ length before
      → AllClosed (length (before ++ Default name 0 ∷ own)) own
      → IsJumping context s index first now (before ++ Default name 0 ∷ own)
      → IsWriting context s first now
      (before ++ Default name (length (before ++ Default name 0 ∷ own)) ∷ own)
  closed_jump index first now before own name is closed jumping =
      let next = length (before ++ Default name 0 ∷ own) in
      elim (where_is before (Default name 0 ∷ own) jumping.before (Default jumping.name 0) jumping.own
      jumping.splits) [
        | inl found ↦
            absurd (omega (
              arith,
              is,
              jumping.is,
              simp length-append at (ap length found.front),
            ))
        | inr found ↦ of found.between found.before found.back
      ]
    where
      of : (between : List Part) → jumping.before ≡ before ++ between
          → Default name 0 ∷ own ≡ between ++ Default jumping.name 0 ∷ jumping.own
          → IsWriting context s first now
          (before ++ Default name (length (before ++ Default name 0 ∷ own)) ∷ own)
      of [] front back =
          let next = length (before ++ Default name 0 ∷ own) in
          let others = before ++ Default name next ∷ own in
          let same : jumping.before ≡ before = front ∙ append-nil before in
          let named : jumping.name ≡ name = cc in
          let settled = subst (λ (ps : List Part). AllHaveJumps context.look_up s (length ps) ps) same
          jumping.settled in
          let found = subst (λ (n : Span). context.look_up (span_bytes n s) ≡ Some jumping.value) named
          jumping.found in
          let count : next ≡ length before + 1 + length own =
          omega (arith, length-append before (Default name 0 ∷ own)) in
          record {
            settled = subst (λ n. AllHaveJumps context.look_up s n others)
                (same_length before own name 0 next)
                (settled_jump context.look_up s before own name next jumping.value settled
                (omega (arith, count)) (omega (arith, count))
                (each_weaker (IsClosed next) (HasJump context.look_up s next)
                (settled_of context.look_up s next) own closed));
            written = writes_same context s
                (λ look. visited_parts (before ++ Default name 0 ∷ []) 0 0 s look)
                (λ look. visited_parts others 0 0 s look)
                (jumped_parts context.look_up s before own name next jumping.value settled found
                (omega (arith, count)))
                first now
                (subst (λ (ps : List Part). WritesParts context s (ps ++ Default name 0 ∷ []) first now) same
                (subst (λ (n : Span). WritesParts context s (jumping.before ++ Default n 0 ∷ []) first now)
                named jumping.written));
          }
      of (part ∷ rest) front back =
          absurd (omega (arith, is, jumping.is, simp length-append at (ap length front)))

  -- while the writer is inside another one: it stays there
  pub closed_inside : (index : ℕ) (first now : W) (before own : List Part) (name : Span) (next : ℕ)
      → ¬ (index ≡ length before) → AllClosed (length (before ++ Default name 0 ∷ own)) own
      → IsJumping context s index first now (before ++ Default name 0 ∷ own)
      → IsJumping context s index first now (before ++ Default name next ∷ own)
  closed_inside index first now before own name next other closed jumping =
      elim (where_is jumping.before (Default jumping.name 0 ∷ jumping.own) before (Default name 0) own
      (sym jumping.splits)) [
        | inl found ↦
            absurd (none_open (length (before ++ Default name 0 ∷ own)) found.own jumping.name jumping.own
            (subst (AllClosed (length (before ++ Default name 0 ∷ own))) found.after closed))
        | inr found ↦ of found.between found.before found.back
      ]
    where
      is_jump : {part : Part} {us vs : List Part} → Default jumping.name 0 ∷ us ≡ part ∷ vs
          → part ≡ Default jumping.name 0
      is_jump back = cc

      of : (between : List Part) → before ≡ jumping.before ++ between
          → Default jumping.name 0 ∷ jumping.own ≡ between ++ Default name 0 ∷ own
          → IsJumping context s index first now (before ++ Default name next ∷ own)
      of [] front back =
          absurd (other (jumping.is ∙ ap length (sym (append-nil jumping.before)) ∙ ap length (sym front)))
      of (part ∷ rest) front back = record {
        before = jumping.before;
        name = jumping.name;
        own = rest ++ Default name next ∷ own;
        splits =
            ap (λ (ps : List Part). ps ++ Default name next ∷ own) front
            ∙ append_assoc jumping.before (part ∷ rest) (Default name next ∷ own)
            ∙ ap (λ (p : Part). jumping.before ++ p ∷ (rest ++ Default name next ∷ own)) (is_jump back);
        is = jumping.is;
        settled = jumping.settled;
        value = jumping.value;
        found = jumping.found;
        written = jumping.written;
      }

  -- after writing stopped
  pub closed_stopped : (stopped : Stop) (first now : W) (before own : List Part) (name : Span) (next : ℕ)
      → HasStopped context s stopped first now (before ++ Default name 0 ∷ own)
      → HasStopped context s stopped first now (before ++ Default name next ∷ own)
  closed_stopped stopped first now before own name next stops =
      elim (where_is stops.done (stops.part ∷ stops.rest) before (Default name 0) own (sym stops.splits)) [
        | inl found ↦ in_front found.own found.front found.after
        | inr found ↦ in_back found.between found.before found.back
      ]
    where
      in_front : (us : List Part) → stops.done ≡ before ++ Default name 0 ∷ us
          → own ≡ us ++ stops.part ∷ stops.rest
          → HasStopped context s stopped first now (before ++ Default name next ∷ own)
      in_front us front after =
          let old = before ++ Default name 0 ∷ us in
          let new = before ++ Default name next ∷ us in
          let settled = subst (λ (ps : List Part). AllHaveJumps context.look_up s (length ps) ps) front
          stops.settled in
          let none = open_lacks context.look_up s before us name (length old) settled in
          record {
            done = new;
            part = stops.part;
            rest = stops.rest;
            splits =
                ap (λ (ps : List Part). before ++ Default name next ∷ ps) after
                ∙ sym (append_assoc before (Default name next ∷ us) (stops.part ∷ stops.rest));
            settled = subst (λ n. AllHaveJumps context.look_up s n new) (same_length before us name 0 next)
                (settled_changed context.look_up s before us name (length old) next none settled);
            before = stops.before;
            written = writes_same context s (λ look. visited_parts old 0 0 s look)
                (λ look. visited_parts new 0 0 s look)
                (changed_parts context.look_up s before us name 0 next none) first stops.before
                (subst (λ (ps : List Part). WritesParts context s ps first stops.before) front stops.written);
            stops = stops.stops;
          }

      in_back : (between : List Part) → before ≡ stops.done ++ between
          → stops.part ∷ stops.rest ≡ between ++ Default name 0 ∷ own
          → HasStopped context s stopped first now (before ++ Default name next ∷ own)
      in_back [] front back =
          let same : before ≡ stops.done = front ∙ append-nil stops.done in
          let is : stops.part ≡ Default name 0 = cc in
          record {
            done = stops.done;
            part = Default name next;
            rest = own;
            splits = ap (λ (ps : List Part). ps ++ Default name next ∷ own) same;
            settled = stops.settled;
            before = stops.before;
            written = stops.written;
            stops = subst (λ (p : Part). StopsAtPart context s p stopped stops.before now) is stops.stops;
          }
      in_back (part ∷ rest) front back =
          let is : part ≡ stops.part = cc in
          record {
            done = stops.done;
            part = stops.part;
            rest = rest ++ Default name next ∷ own;
            splits =
                ap (λ (ps : List Part). ps ++ Default name next ∷ own) front
                ∙ append_assoc stops.done (part ∷ rest) (Default name next ∷ own)
                ∙ ap (λ (p : Part). stops.done ++ p ∷ (rest ++ Default name next ∷ own)) is;
            settled = stops.settled;
            before = stops.before;
            written = stops.written;
            stops = stops.stops;
          }

  -- before the first part nothing was written
  pub started : (output : W) → IsWriting context s output output []
  started output = record { settled = tt; written = writes_none context s output }

  -- at the end, writing stopped in the parts of the whole source
  pub stopped_whole : (stopped : Stop) (first now : W) (parts : List Part)
      → HasStopped context s stopped first now parts → StopsInParts context s stopped parts first now
  stopped_whole stopped first now parts stops =
      subst (λ (ps : List Part). StopsInParts context s stopped ps first now) (sym stops.splits)
      (stops_next context s (λ look. visited_parts stops.done 0 0 s look)
      (λ look. visited_parts (stops.done ++ stops.part ∷ stops.rest) 0 0 s look) stops.part first stops.before
      now stops.written
      (λ look. visited_parts stops.rest (length stops.done + 1) (resume_index stops.part s look) s look)
      (λ bytes. visited_more context.look_up bytes s stops.done stops.part stops.rest stops.settled) stopped
      stops.stops)

  -- and no default is open
  pub none_jumped : (index : ℕ) (first now : W) (parts : List Part) (end : ℕ) → AllClosed end parts
      → IsJumping context s index first now parts → ⊥
  none_jumped index first now parts end closed jumping =
      none_open end jumping.before jumping.name jumping.own (subst (AllClosed end) jumping.splits closed)

  -- a part was taken
  pub holds_took : (part : Part) (old : State) (before : W) (found : Bool) (state : State) (now : W)
      (len next : ℕ) (first : AtFirst Seen W) (parts : List Part) (n : ℕ) → IsClosed (n + 1) part → len ≡ n
      → HoldsParts context s len old before first parts → WritesOn context s part old before found state now
      → next ≡ len + 1
      → HoldsParts context s next state now first (parts ++ part ∷ [])
  holds_took part old before found state now len next first parts n closed counts held written one = record {
    source = held.source;
    map = held.map;
    count = omega (arith, one, held.count, count_last parts part);
    written = took part old first.output before found state now parts held.written written
        (λ was is. settled_of context.look_up s (length parts + 1) part
        (subst (λ k. IsClosed k part) (omega (arith, counts, held.count)) closed));
  }

  -- a default opens whose name has no value, or that is skipped
  pub holds_opened : (name : Span) (old : State) (before : W) (found : Bool) (state : State) (now : W)
      (len next : ℕ) (first : AtFirst Seen W) (parts : List Part)
      → HoldsParts context s len old before first parts
      → WritesOn context s (Default name 0) old before found state now → found ≡ false → next ≡ len + 1
      → HoldsParts context s next state now first (parts ++ Default name 0 ∷ [])
  holds_opened name old before found state now len next first parts held written none one = record {
    source = held.source;
    map = held.map;
    count = omega (arith, one, held.count, count_last parts (Default name 0));
    written = took (Default name 0) old first.output before found state now parts held.written written
        (λ was is. open_settled name (length parts + 1) before now found none
        (subst (λ st. PartWritten context s (Default name 0) before found st now) is
        (subst (λ st. WritesOn context s (Default name 0) st before found state now) was written)));
  }

  -- or whose name has one
  pub holds_jumped : (name : Span) (old : State) (before : W) (found : Bool) (state : State) (now : W)
      (len next : ℕ) (first : AtFirst Seen W) (parts : List Part)
      → HoldsParts context s len old before first parts
      → WritesOn context s (Default name 0) old before found state now → found ≡ true → next ≡ len + 1
      → HoldsParts context s next (Jumping len) now first (parts ++ Default name 0 ∷ [])
  holds_jumped name old before found state now len next first parts held written some one = record {
    source = held.source;
    map = held.map;
    count = omega (arith, one, held.count, count_last parts (Default name 0));
    written =
        subst (λ n. IsJumping context s n first.output now (parts ++ Default name 0 ∷ [])) (sym held.count)
        (jumped name old first.output before state now parts held.written
        (subst (λ b. WritesOn context s (Default name 0) old before b state now) some written));
  }

  -- the default that the writer is inside closes
  pub holds_resumed : (index len : ℕ) (now : W) (first : AtFirst Seen W) (before own : List Part)
      (name : Span)
      → index ≡ length before → AllClosed (length (before ++ Default name 0 ∷ own)) own
      → HoldsParts context s len (Jumping index) now first (before ++ Default name 0 ∷ own)
      → HoldsParts context s len Writing now first
      (before ++ Default name (length (before ++ Default name 0 ∷ own)) ∷ own)
  holds_resumed index len now first before own name is closed held = record {
    source = held.source;
    map = held.map;
    count = held.count ∙ same_length before own name 0 _;
    written = closed_jump index first.output now before own name is closed held.written;
  }

  -- or another one
  pub holds_closed : (state : State) (len : ℕ) (now : W) (first : AtFirst Seen W) (before own : List Part)
      (name : Span) → ¬ (state ≡ Jumping (length before))
      → AllClosed (length (before ++ Default name 0 ∷ own)) own
      → HoldsParts context s len state now first (before ++ Default name 0 ∷ own)
      → HoldsParts context s len state now first
      (before ++ Default name (length (before ++ Default name 0 ∷ own)) ∷ own)
  holds_closed state len now first before own name other closed held = record {
    source = held.source;
    map = held.map;
    count = held.count ∙ same_length before own name 0 _;
    written = of state other held.written;
  }
    where
      of : (state : State) → ¬ (state ≡ Jumping (length before))
          → HasWritten context s state first.output now (before ++ Default name 0 ∷ own)
          → HasWritten context s state first.output now
          (before ++ Default name (length (before ++ Default name 0 ∷ own)) ∷ own)
      of Writing other writing = closed_writing first.output now before own name _ writing
      of (Jumping index) other jumping =
          closed_inside index first.output now before own name _
          (λ is. other (ap Jumping is)) closed jumping
      of (Stopped stopped) other stops = closed_stopped stopped first.output now before own name _ stops

  -- in each state, the output begins with its first bytes, and its capacity only grew
  pub begun : (state : State) (first now : W) (parts : List Part) → HasWritten context s state first now parts
      → Appended context.holds (λ _. Unit {0}) first now × (context.capacity first ≤ context.capacity now)
  begun Writing first now parts writing =
      (same_appended writing.written.filled (λ x fills. tt), writing.written.capacity)
  begun (Jumping index) first now parts jumping =
      (same_appended jumping.written.filled (λ x fills. tt), jumping.written.capacity)
  begun (Stopped stopped) first now parts stops =
      let whole = stopped_whole stopped first now parts stops in
      (whole.begins, whole.capacity)
