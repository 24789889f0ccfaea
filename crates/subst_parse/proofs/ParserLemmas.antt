-- The states of the parser, before and after each step.
use Rattle.std.proofs.Common.{◌≡◌, ◌≢◌, ℕ, suc, ◌+◌, ◌-◌, ◌<◌, ◌≤◌, true, List, [], ◌∷◌, ◌++◌, length, drop, take, reverse, Option, Some, None, Result, Ok, Err, OnErr, OnOk, Vec, Global, Bor, refl, sym, ap, ◌∙◌, subst, append-nil, length-append, length-drop, arith}
use Rattle.std.proofs.Math.Decide.{ℕ_discrete}
use Rattle.std.proofs.lemmas.List.{reverse-append, drop_all, take-append-drop}
use Rattle.std.specs.List.{slice_get}
use Rattle.subst_language.specs.Language.Bytes.{colon, closing_brace, backslash, dollar, opening_brace}
use Rattle.subst_parse.specs.ByteRun.{IsRun}
use Rattle.subst_parse.specs.Inner.{IsInner}
use Rattle.subst_language.specs.Language.Bytes.{IsPlain}
use Rattle.subst_language.specs.Language.Balanced.IsBalanced.{empty}
use Rattle.subst_language.specs.Language.Tree.{text}
use Rattle.subst_language.specs.Lemmas.Closing.{ClosesAll}
use Rattle.subst_error.specs.Fault.{Fault, MissingClosingBrace}
use Rattle.subst_language.specs.Language.BadItem.{HasFault}
use Rattle.subst_language.specs.Calls.Clauses.{ContainsDefault}
use Rattle.subst_language.specs.Parts.Sink.{HoldsFrom, HoldsSome, HoldsTemplate, FitsBelow, since, CanClose, CanTake, AllClosed}
use Rattle.subst_parse.specs.Halt.{halt_fault}
use Rattle.subst_parse.specs.declared.halt.Halt.{Halt}
use Rattle.std.specs.Option.{IsSomeAnd}
use Rattle.subst_parse.specs.Placeholder.{IsInBraces, IsNameAt, IsOptional, IsBadWhenCut}
use Rattle.subst_parse.specs.Parsing.{StackHolds, StackHoldsFlushed, IsReading, FromReading, ReadsOn, StepsOrFails, IsFlushed, IsPart}
use Rattle.subst_language.specs.Parts.Span.{span_bytes}
use Rattle.subst_language.specs.declared.part.Span.{Span}
use Rattle.subst_language.specs.declared.part.Part.{Part}
use Rattle.subst_language.specs.declared.part.Part.TheVariants.{Literal, Default}
use Rattle.subst_parse.specs.declared.parse.OpenDefault.{OpenDefault}
use Rattle.subst_parse.specs.declared.parse.Parser.{Parser}
use Rattle.subst_parse.specs.declared.tape.Tape.{Tape}
use Rattle.subst_language.proofs.Language.ListLemmas.{split_last, split_first, reverse_last}
use Rattle.subst_parse.proofs.StackHoldsLemmas.{holds_given, holds_ordered, holds_same, holds_tree, holds_inner, holds_opening, holds_closing, holds_default, holds_closed, holds_run, holds_any, holds_some, holds_open, holds_top}
use Rattle.subst_parse.proofs.PartOfLemmas.{optional_part}
use Rattle.subst_language.proofs.PartsLemmas.{closed_of_fit}
use Rattle.subst_parse.proofs.LiftLemmas.{lift, unclosed_outermost, outermost_starts}
use Rattle.subst_language.proofs.Language.ClosingLemmas.{closes_nothing}

-- a byte that isn't plain and no backslash is a dollar
pub dollar_if_not_plain : (b : ℕ) → ¬ (IsPlain b) → b ≢ backslash → b ≡ dollar
dollar_if_not_plain b special other = of (ℕ_discrete b dollar)
  where
    of : Dec (b ≡ dollar) → b ≡ dollar
    of (yes e) = e
    of (no n) = absurd (special (n, other))

-- reads change nothing else of the state
reading_with : {S : Type 0} {holds : S → List Part → Type 0} {limit : ℕ} (p : Parser S) (tape : Tape)
    → tape.source ≡ p.tape.source
    → IsReading holds limit p
    → IsReading holds limit (record p { tape = tape })
reading_with p tape same reading = record {
  parts = reading.parts;
  held = reading.held;
  fits = rw same reading.fits;
  few = reading.few;
  small = rw same reading.small;
  within = rw same reading.within;
  shallow = reading.shallow;
  nested = rw same reading.nested;
}

-- one more part, of at least one byte
one_more : (parts : List Part) (part : Part) {at end : ℕ} → length parts ≤ at → at < end
    → length (parts ++ part ∷ []) ≤ end
one_more parts part few forward = omega (arith, few, forward, length-append parts (part ∷ []))

-- the plain bytes become a part, if there are any
pub flushed_some : {S : Type 0} {holds : S → List Part → Type 0} {limit : ℕ} (p : Parser S) (sink : S)
    → (reading : IsReading holds limit p) → p.literal_start < p.at
    → holds sink (reading.parts ++ Literal (record { start = p.literal_start; end = p.at }) ∷ [])
    → IsFlushed holds p (record p { sink = sink; literal_start = p.at })
flushed_some p sink reading some held = record {
  kept = refl;
  parts = reading.parts ++ Literal (record { start = p.literal_start; end = p.at }) ∷ [];
  held = held;
  few = one_more reading.parts _ reading.few some;
  nested =
      holds_given p.tape.source.now (reverse p.defaults.items) p.depth reading.parts p.literal_start p.at some
      reading.within reading.nested;
}

pub flushed_none : {S : Type 0} {holds : S → List Part → Type 0} {limit : ℕ} (p : Parser S)
    → (reading : IsReading holds limit p) → p.at ≤ p.literal_start
    → IsFlushed holds p (record p { literal_start = p.at })
flushed_none p reading none =
    let s = p.tape.source.now in
    let ordered = holds_ordered s (reverse p.defaults.items) p.depth reading.parts p.literal_start p.at
    reading.nested in
    record {
      kept = refl;
      parts = reading.parts;
      held = reading.held;
      few = omega (arith, reading.few, ordered);
      nested =
          holds_same s (reverse p.defaults.items) p.depth reading.parts p.literal_start p.at
          none reading.nested;
    }

-- a part is added
pub reading_added : {S : Type 0} {holds : S → List Part → Type 0} {limit : ℕ} (old mid : Parser S) (sink : S)
    (part : Part) (end : ℕ) → IsReading holds limit old
    → (given : IsFlushed holds old mid)
    → holds sink (given.parts ++ part ∷ [])
    → IsPart old.tape.source.now old.at end (length given.parts) part
    → end ≤ length old.tape.source.now → old.at < end
    → IsReading holds limit (record mid { sink = sink; literal_start = end; at = end })
    × (mid.tape.source ≡ old.tape.source)
    × (old.at < end)
reading_added old mid sink part end reading given held is within forward =
    let tape = ap (λ (p : Parser _). p.tape) given.kept in
    let defaults = ap (λ (p : Parser _). p.defaults) given.kept in
    let depth = ap (λ (p : Parser _). p.depth) given.kept in
    let added =
    holds_tree old.tape.source.now (reverse old.defaults.items) old.depth given.parts
    (part ∷ []) old.at end
    is.tree is.at is.balanced is.ends is.mean given.nested in (
      record {
        parts = given.parts ++ part ∷ [];
        held = held;
        fits = rw tape reading.fits;
        few = one_more given.parts part given.few forward;
        small = rw tape reading.small;
        within = rw tape within;
        shallow = omega (arith, depth, reading.shallow);
        nested = rw (tape, defaults, depth) added;
      },
      ap (λ (t : Tape). t.source) tape,
      forward,
    )

-- a step of the parser, for each first state of its sink
pub stepped : {S First : Type 0} {holds : HoldsFrom S First} {limit : ℕ} (old new : Parser S) (first : First)
    → IsReading (since holds first) limit old
    → ((first : First) → IsReading (since holds first) limit old
    → IsReading (since holds first) limit new × (new.tape.source ≡ old.tape.source) × (old.at < new.at))
    → ReadsOn holds limit old new × (new.tape.source ≡ old.tape.source) × (old.at < new.at)
stepped old new first reading step =
    let stepped = step first reading in (λ first reading. (step first reading).0, stepped.1, stepped.2)

-- a step after others
pub steps_after : {S First : Type 0} {holds : HoldsFrom S First} {limit : ℕ} (asks : Type 0)
    (old mid : Parser S) (result : Result (Unit {0}) Halt) (new : Parser S) → ReadsOn holds limit old mid
    → mid.tape.source ≡ old.tape.source → old.at ≤ mid.at → StepsOrFails holds limit asks mid result new
    → StepsOrFails holds limit asks old result new
steps_after asks old mid (Ok done) new reads same forward steps = (
  λ first reading. steps.0 first (reads first reading),
  steps.1 ∙ same,
  omega (arith, forward, steps.2),
)
steps_after asks old mid (Err e) new reads same forward fails = (
  rw (← same) fails.0,
  λ first reading. fails.1 first (reads first reading),
  λ none. rw (← same) (fails.2 none),
)

-- the sink's parts after a step that failed, after others
pub still_after : {S First : Type 0} {holds : HoldsFrom S First} {limit : ℕ} (old mid : Parser S)
    (result : Result (Unit {0}) Halt) (new : Parser S) → ReadsOn holds limit old mid
    → OnErr result (FromReading holds limit mid (HoldsSome holds new.sink))
    → OnErr result (FromReading holds limit old (HoldsSome holds new.sink))
still_after old mid (Ok done) new reads still = tt
still_after old mid (Err e) new reads still = λ first reading. still first (reads first reading)

-- the end of the source, after other steps
pub finishes_after : {S First : Type 0} {holds : HoldsFrom S First} {limit : ℕ} (old mid : Parser S)
    (result : Result (Unit {0}) Halt) (new : Parser S) → ReadsOn holds limit old mid
    → mid.tape.source ≡ old.tape.source
    → OnOk result (FromReading holds limit mid
    (λ first. HoldsTemplate (since holds first) mid.tape.source.now new.sink))
    → OnOk result (FromReading holds limit old
    (λ first. HoldsTemplate (since holds first) old.tape.source.now new.sink))
finishes_after {holds = holds} old mid (Ok done) new reads same finishes = λ first reading.
    subst (λ (source : Bor (List ℕ)). HoldsTemplate (since holds first) source.now new.sink) same
    (finishes first (reads first reading))
finishes_after old mid (Err e) new reads same finishes = tt

-- the end of a source that was read from its start
pub finishes_from : {S First : Type 0} {holds : HoldsFrom S First} {limit : ℕ} (s : List ℕ) (p new : Parser S)
    (Starts : First → Type 0)
    → ((first : First) → Starts first → IsReading (since holds first) limit p) → p.tape.source.now ≡ s
    → FromReading holds limit p (λ first. HoldsTemplate (since holds first) p.tape.source.now new.sink)
    → (first : First) → Starts first → HoldsTemplate (since holds first) s new.sink
finishes_from {holds = holds} s p new Starts reads same finishes first starts =
    subst (λ x. HoldsTemplate (since holds first) x new.sink) same (finishes first (reads first starts))

-- an optional variable is in the source
optional_inside : (s : List ℕ) (at : ℕ) (name : Span) → IsOptional s at name → name.end + 2 ≤ length s
optional_inside s at name is = omega (arith, simp length-drop at (ap length is.closed))

-- the part of an optional variable is added, whose jump leads to the next part
pub reading_optional : {S : Type 0} {holds : S → List Part → Type 0} {limit : ℕ} (old mid : Parser S)
    (sink : S) (name : Span) (end : ℕ)
    → IsReading holds limit old → (given : IsFlushed holds old mid)
    → IsOptional old.tape.source.now old.at name
    → holds sink (given.parts ++ Default name (length given.parts + 1) ∷ [])
    → end ≡ name.end + 2
    → IsReading holds limit (record mid { sink = sink; literal_start = end; at = end })
    × (mid.tape.source ≡ old.tape.source) × (old.at < end)
reading_optional old mid sink name end reading given is held ends =
    let s = old.tape.source.now in
    let i = length given.parts in
    reading_added old mid sink (Default name (i + 1)) end reading given held
    (rw ends (optional_part s old.at name i is)) (rw ends (optional_inside s old.at name is))
    (omega (arith, ends, is.head.starts, is.head.named.ends))

-- the head of a placeholder with a default is in the source
pub head_inside : (s : List ℕ) (at : ℕ) (name : Span) (b : ℕ) → IsInBraces s at name b → at ≤ length s
    → name.end + 1 ≤ length s
head_inside s at name b front inside =
    omega (
      arith,
      front.starts,
      front.named.ends,
      front.named.inside.within,
      simp (length-drop, length-append) at (ap length front.spelled),
    )

-- a source with the beginning of a default at some position contains one
pub contains_default : (s : List ℕ) (at : ℕ) (name : Span) → IsInBraces s at name colon → ContainsDefault s
contains_default s at name head = (
  take at s,
  span_bytes name s,
  drop (name.end + 1) s,
  head.named.valid,
  sym (take-append-drop at s) ∙ ap (λ rest. take at s ++ rest) head.spelled,
)

-- a default opens
pub reading_opened : {S : Type 0} {holds : S → List Part → Type 0} {limit : ℕ} (old mid : Parser S) (sink : S)
    (defaults : Vec OpenDefault Global) (name : Span) (index : ℕ)
    → IsReading holds limit old → (given : IsFlushed holds old mid)
    → IsInBraces old.tape.source.now old.at name colon
    → index ≡ length given.parts → holds sink (given.parts ++ Default name 0 ∷ [])
    → defaults.items ≡ mid.defaults.items ++ record { part = index; depth = mid.depth; name = name } ∷ []
    → IsReading holds limit
    (record mid {
      sink = sink;
      defaults = defaults;
      depth = mid.depth + 1;
      literal_start = name.end
          + 1;
      at = name.end + 1;
    })
    × (mid.tape.source ≡ old.tape.source) × (old.at < name.end + 1)
reading_opened old mid sink defaults name index reading given front counts held pushed =
    let s = old.tape.source.now in
    let tape = ap (λ (p : Parser _). p.tape) given.kept in
    let same = ap (λ (p : Parser _). p.defaults) given.kept in
    let depth = ap (λ (p : Parser _). p.depth) given.kept in
    let opened =
    holds_default s (reverse old.defaults.items) old.depth given.parts old.at name front given.nested in
    let stack : reverse defaults.items
    ≡ record { part = length given.parts; depth = old.depth; name = name } ∷ reverse old.defaults.items =
    ap reverse pushed ∙ reverse_last mid.defaults.items _ ∙ rw (same, depth, counts) refl in (
      record {
        parts = given.parts ++ Default name 0 ∷ [];
        held = held;
        fits = rw tape reading.fits;
        few = one_more given.parts (Default name 0) given.few
            (omega (arith, front.starts, front.named.ends));
        small = rw tape reading.small;
        within = rw tape (head_inside s old.at name colon front reading.within);
        shallow = omega (arith, depth, reading.shallow, front.starts, front.named.ends);
        nested = rw (tape, depth, stack) opened;
      },
      ap (λ (t : Tape). t.source) tape,
      omega (arith, front.starts, front.named.ends),
    )

-- the state after a flush, by the innermost default
given_innermost : {S : Type 0} {holds : S → List Part → Type 0} (old mid : Parser S)
    (front : List OpenDefault)
    (innermost : OpenDefault)
    → (given : IsFlushed holds old mid)
    → old.defaults.items ≡ front ++ innermost ∷ []
    → StackHoldsFlushed old.tape.source.now (innermost ∷ reverse front) old.depth given.parts old.at old.at
given_innermost old mid front innermost given split =
    subst (λ ds. StackHoldsFlushed old.tape.source.now ds old.depth given.parts old.at old.at)
    (ap reverse split ∙ reverse_last front innermost) given.nested

-- the offsets of a name in the source are below the limit
pub name_fits : {s : List ℕ} {limit : ℕ} {name : Span} → IsNameAt s name → length s < limit
    → (name.start < limit) × (name.end < limit)
name_fits named fits =
    (omega (arith, fits, named.inside.within, named.ends), omega (arith, fits, named.inside.within))

-- a sink can close the part of the innermost default
pub innermost_closes : {S First : Type 0} {holds : HoldsFrom S First} {limit : ℕ} (old mid : Parser S)
    (front : List OpenDefault) (innermost : OpenDefault) (first : First)
    → IsReading (since holds first) limit old → IsFlushed (since holds first) old mid
    → old.defaults.items ≡ front ++ innermost ∷ []
    → CanClose holds limit mid.sink innermost.part innermost.name
innermost_closes {holds = holds} {limit = limit} old mid front innermost first reading given split =
    let nested = given_innermost old mid front innermost given split in
    let fits = name_fits nested.head.named reading.fits in
    record {
      first = first;
      before = nested.before;
      own = nested.own;
      held = subst (holds mid.sink first) nested.splits given.held;
      is = nested.part;
      fits = (
        fits.0,
        fits.1,
        subst (λ (parts : List Part). length parts < limit) nested.splits
            (omega (arith, given.few, reading.within, reading.fits)),
      );
    }

-- the state with these parts, after a default has closed
closed_state : {S : Type 0} {holds : S → List Part → Type 0} {limit : ℕ} (old mid : Parser S)
    (front : List OpenDefault) (sink : S) (defaults : Vec OpenDefault Global) (depth : ℕ) (parts : List Part)
    → IsReading holds limit old → mid.tape ≡ old.tape → mid.at ≡ old.at → old.at < length old.tape.source.now
    → depth + 1 ≡ old.depth → defaults.items ≡ front → holds sink parts → length parts ≤ old.at
    → StackHolds true old.tape.source.now (reverse front) depth parts (old.at + 1) (old.at + 1)
    → IsReading holds limit
    (record mid {
      sink = sink;
      defaults = defaults;
      depth = depth;
      literal_start = mid.at
          + 1;
      at = mid.at + 1;
    })
closed_state old mid front sink defaults depth parts reading tape at inside closes popped held few nested =
    record {
      parts = parts;
      held = held;
      fits = rw tape reading.fits;
      few = omega (arith, at, few);
      small = rw tape reading.small;
      within = rw (tape, at) (omega arith);
      shallow = omega (arith, at, reading.shallow);
      nested = rw (tape, at, popped) nested;
    }

-- a default closes
pub reading_closed : {S : Type 0} {holds : S → List Part → Type 0} {limit : ℕ} (old mid : Parser S)
    (front : List OpenDefault) (sink : S)
    (defaults : Vec OpenDefault Global) (innermost : OpenDefault)
    → IsReading holds limit old → (given : IsFlushed holds old mid) → old.at < length old.tape.source.now
    → drop old.at old.tape.source.now ≡ closing_brace ∷ drop (old.at + 1) old.tape.source.now
    → innermost.depth + 1 ≡ old.depth → old.defaults.items ≡ front ++ innermost ∷ [] → defaults.items ≡ front
    → ((before own : List Part) → innermost.part ≡ length before
    → AllClosed (length (before ++ Default innermost.name 0 ∷ own)) own
    → holds mid.sink (before ++ Default innermost.name 0 ∷ own)
    → holds sink (before ++ Default innermost.name (length (before ++ Default innermost.name 0 ∷ own)) ∷ own))
    → IsReading holds limit
    (record mid {
      sink = sink;
      defaults = defaults;
      depth = innermost.depth;
      literal_start = mid.at
          + 1;
      at = mid.at + 1;
    })
    × (mid.tape.source ≡ old.tape.source) × (old.at < mid.at + 1)
reading_closed {holds = holds} old mid front sink defaults innermost reading given inside reads closes split
    popped closed =
    let s = old.tape.source.now in
    let tape = ap (λ (p : Parser _). p.tape) given.kept in
    let at = ap (λ (p : Parser _). p.at) given.kept in
    let nested = given_innermost old mid front innermost given split in
    let parts = nested.before ++ Default innermost.name (length given.parts) ∷ nested.own in
    let held : holds sink parts =
    subst (λ n. holds sink (nested.before ++ Default innermost.name n ∷ nested.own))
    (ap length (sym nested.splits))
    (closed nested.before nested.own nested.part
    (subst (λ n. AllClosed n nested.own)
    (omega (arith, length-append nested.before (Default innermost.name 0 ∷ nested.own)))
    (closed_of_fit _ _ s nested.own nested.current.level.mean.fit))
    (subst (holds mid.sink) nested.splits given.held)) in
    let few : length parts ≤ old.at =
    omega (
      arith,
      given.few,
      length-append nested.before (Default innermost.name (length given.parts) ∷ nested.own),
      simp length-append at (ap length nested.splits),
    ) in (
      closed_state old mid front sink defaults innermost.depth parts reading tape at inside closes popped held
          few (holds_closed s innermost (reverse front) old.depth given.parts old.at closes reads nested),
      ap (λ (t : Tape). t.source) tape,
      omega (arith, at),
    )

-- a bare brace closes: it isn't that of the last default
pub reading_bare : {S : Type 0} {holds : S → List Part → Type 0} {limit : ℕ} (p : Parser S)
    (innermost : OpenDefault) → IsReading holds limit p
    → p.at < length p.tape.source.now
    → 0 < p.depth
    → drop p.at p.tape.source.now ≡ closing_brace ∷ drop (p.at + 1) p.tape.source.now
    → slice_get p.defaults.items (length p.defaults.items - 1) ≡ Some innermost
    → ¬ (innermost.depth + 1 ≡ p.depth)
    → IsReading holds limit (record p { depth = p.depth - 1; at = p.at + 1 })
reading_bare p innermost reading inside some reads last other =
    let s = p.tape.source.now in
    let split = split_last p.defaults.items innermost last in
    let stack : reverse p.defaults.items ≡ innermost ∷ reverse split.0 =
    ap reverse split.1 ∙ reverse_last split.0 innermost in
    record {
      parts = reading.parts;
      held = reading.held;
      fits = reading.fits;
      few = reading.few;
      small = reading.small;
      within = omega arith;
      shallow = omega (arith, reading.shallow);
      nested =
          rw stack
          (holds_closing s innermost (reverse split.0) p.depth reading.parts p.literal_start p.at other reads
          (subst (λ ds. StackHolds true s ds p.depth reading.parts p.literal_start p.at) stack
          reading.nested));
    }

-- inside a default, a run of inner bytes, and other reads
pub reading_inner : {S : Type 0} {holds : S → List Part → Type 0} {limit : ℕ} (p : Parser S) (tape : Tape)
    (to : ℕ)
    → tape.source ≡ p.tape.source → IsReading holds limit p → 0 < p.depth
    → to ≤ length p.tape.source.now → IsRun IsInner p.tape.source.now p.at to
    → IsReading holds limit (record p { tape = tape; at = to })
reading_inner p tape to same reading some within run =
    let s = p.tape.source.now in
    let (default, rest, stack) =
    holds_open s (reverse p.defaults.items) p.depth reading.parts p.literal_start p.at some reading.nested in
    reading_with (record p { at = to }) tape same (record {
      parts = reading.parts;
      held = reading.held;
      fits = reading.fits;
      few = reading.few;
      small = reading.small;
      within = within;
      shallow = omega (arith, reading.shallow, run.ends);
      nested =
          rw stack
          (holds_inner s default rest p.depth reading.parts p.literal_start p.at to run
          (subst (λ ds. StackHolds true s ds p.depth reading.parts p.literal_start p.at) stack
          reading.nested));
    })

-- inside a default, a bare opening brace
pub reading_opening : {S : Type 0} {holds : S → List Part → Type 0} {limit : ℕ} (p : Parser S)
    → IsReading holds limit p
    → p.at < length p.tape.source.now → 0 < p.depth
    → drop p.at p.tape.source.now ≡ opening_brace ∷ drop (p.at + 1) p.tape.source.now
    → IsReading holds limit (record p { depth = p.depth + 1; at = p.at + 1 })
reading_opening p reading inside some reads =
    let s = p.tape.source.now in
    let (default, rest, stack) =
    holds_open s (reverse p.defaults.items) p.depth reading.parts p.literal_start p.at some reading.nested in
    record {
      parts = reading.parts;
      held = reading.held;
      fits = reading.fits;
      few = reading.few;
      small = reading.small;
      within = omega arith;
      shallow = omega (arith, reading.shallow);
      nested = rw stack (holds_opening s default rest p.depth reading.parts p.literal_start p.at reads
          (subst (λ ds. StackHolds true s ds p.depth reading.parts p.literal_start p.at) stack
          reading.nested));
    }

-- if no brace is open, a run of plain bytes, and other reads
pub reading_run : {S : Type 0} {holds : S → List Part → Type 0} {limit : ℕ} (p : Parser S) (tape : Tape)
    (to : ℕ)
    → tape.source ≡ p.tape.source → IsReading holds limit p → p.depth ≡ 0
    → to ≤ length p.tape.source.now → IsRun IsPlain p.tape.source.now p.at to
    → IsReading holds limit (record p { tape = tape; at = to })
reading_run p tape to same reading top within run =
    let s = p.tape.source.now in
    let stack =
    holds_top s (reverse p.defaults.items) p.depth reading.parts p.literal_start p.at top reading.nested in
    let nested : StackHolds true s [] 0 reading.parts p.literal_start p.at =
    subst (λ d. StackHolds true s [] d reading.parts p.literal_start p.at) top
    (subst (λ ds. StackHolds true s ds p.depth reading.parts p.literal_start p.at) stack reading.nested) in
    reading_with (record p { at = to }) tape same (record {
      parts = reading.parts;
      held = reading.held;
      fits = reading.fits;
      few = reading.few;
      small = reading.small;
      within = within;
      shallow = omega arith;
      nested = rw (stack, top) (holds_run s reading.parts p.literal_start p.at to run nested);
    })

-- the parser's state, without the condition on pending bytes
reading_within : {S : Type 0} {holds : S → List Part → Type 0} {limit : ℕ} (p : Parser S)
    → (reading : IsReading holds limit p)
    → StackHoldsFlushed p.tape.source.now (reverse p.defaults.items) p.depth reading.parts p.literal_start
    p.at
reading_within p reading =
    holds_any p.tape.source.now
    (reverse p.defaults.items) p.depth reading.parts p.literal_start p.at reading.nested

-- the parser's state, by the outermost default
reading_outermost : {S : Type 0} {holds : S → List Part → Type 0} {limit : ℕ} (p : Parser S)
    (outermost : OpenDefault) → (reading : IsReading holds limit p)
    → slice_get p.defaults.items 0 ≡ Some outermost
    → (inner : List OpenDefault)
    × StackHoldsFlushed p.tape.source.now (inner ++ outermost ∷ []) p.depth reading.parts p.literal_start p.at
reading_outermost p outermost reading first =
    let split = split_first p.defaults.items outermost first in
    let stack : reverse p.defaults.items ≡ reverse split.0 ++ outermost ∷ [] =
    ap reverse split.1 ∙ reverse-append (outermost ∷ []) split.0 in (
      reverse split.0,
      subst (λ ds. StackHoldsFlushed p.tape.source.now ds p.depth reading.parts p.literal_start p.at) stack
          (reading_within p reading),
    )

-- the fault of a default that is never closed
pub fault_unclosed : {S : Type 0} {holds : S → List Part → Type 0} {limit : ℕ} (p : Parser S)
    (outermost : OpenDefault) → IsReading holds limit p
    → slice_get p.defaults.items 0 ≡ Some outermost
    → ¬ (ClosesAll p.depth (drop p.at p.tape.source.now))
    → HasFault 0 p.tape.source.now (MissingClosingBrace (outermost.name.start - 1))
fault_unclosed p outermost reading first unclosed =
    let (inner, within) = reading_outermost p outermost reading first in
    unclosed_outermost p.tape.source.now inner outermost p.depth reading.parts p.literal_start p.at within
    unclosed

-- the name of the outermost default is after a dollar and a brace
pub outermost_after : {S : Type 0} {holds : S → List Part → Type 0} {limit : ℕ} (p : Parser S)
    (outermost : OpenDefault) → IsReading holds limit p
    → slice_get p.defaults.items 0 ≡ Some outermost → 0 < outermost.name.start
outermost_after p outermost reading first =
    let (inner, within) = reading_outermost p outermost reading first in
    outermost_starts p.tape.source.now inner outermost p.depth reading.parts p.literal_start p.at within

-- a bad item at the parser's offset is the fault of the source, if all open braces close
pub fault_closed : {S : Type 0} {holds : S → List Part → Type 0} {limit : ℕ} (p : Parser S) (f : Fault)
    → IsReading holds limit p
    → IsBadWhenCut p.at (drop p.at p.tape.source.now) f
    → ClosesAll p.depth (drop p.at p.tape.source.now) → HasFault 0 p.tape.source.now f
fault_closed p f reading bad closes =
    let s = p.tape.source.now in
    lift s (reverse p.defaults.items) p.depth reading.parts p.literal_start p.at [] (drop p.at s) f
    (reading_within p reading) refl empty bad.bad bad.cut closes

-- if no default is open, no brace is
pub closes_top : {S : Type 0} {holds : S → List Part → Type 0} {limit : ℕ} (p : Parser S)
    → IsReading holds limit p → p.defaults.items ≡ []
    → ClosesAll p.depth (drop p.at p.tape.source.now)
closes_top p reading none =
    let s = p.tape.source.now in
    let nested : StackHolds true s [] p.depth reading.parts p.literal_start p.at =
    subst (λ ds. StackHolds true s ds p.depth reading.parts p.literal_start p.at) (ap reverse none)
    reading.nested in
    subst (λ d. ClosesAll d (drop p.at s)) (sym nested.0) tt

-- if a default is open, some brace is
depth_open : {S : Type 0} {holds : S → List Part → Type 0} {limit : ℕ} (p : Parser S)
    (outermost : OpenDefault)
    → IsReading holds limit p
    → slice_get p.defaults.items 0 ≡ Some outermost → 0 < p.depth
depth_open p outermost reading first =
    let (inner, within) = reading_outermost p outermost reading first in
    holds_some p.tape.source.now inner outermost p.depth reading.parts p.literal_start p.at within

-- if a default is open, some byte has been read
pub read_before_open : {S : Type 0} {holds : S → List Part → Type 0} {limit : ℕ} (p : Parser S)
    (outermost : OpenDefault) → IsReading holds limit p
    → slice_get p.defaults.items 0 ≡ Some outermost → 0 < p.at
read_before_open p outermost reading first =
    omega (arith, reading.shallow, depth_open p outermost reading first)

-- at the end of the source, an open default is never closed
pub fault_at_end : {S : Type 0} {holds : S → List Part → Type 0} {limit : ℕ} (p : Parser S)
    (outermost : OpenDefault) → IsReading holds limit p
    → length p.tape.source.now ≤ p.at
    → slice_get p.defaults.items 0 ≡ Some outermost
    → HasFault 0 p.tape.source.now (MissingClosingBrace (outermost.name.start - 1))
fault_at_end p outermost reading end first =
    let some = depth_open p outermost reading first in
    let depth : p.depth ≡ suc (p.depth - 1) = omega arith in
    fault_unclosed p outermost reading first
    (λ closes. closes_nothing (p.depth - 1)
    (subst (λ d. ClosesAll d []) depth
    (subst (ClosesAll p.depth) (drop_all p.at p.tape.source.now end) closes)))

-- the fault of the bad item, if all open braces close
pub fault_known : {S : Type 0} {holds : S → List Part → Type 0} {limit : ℕ} (p : Parser S) (e : Halt)
    → IsReading holds limit p
    → IsSomeAnd (halt_fault e) (IsBadWhenCut p.at (drop p.at p.tape.source.now))
    → ClosesAll p.depth (drop p.at p.tape.source.now)
    → IsSomeAnd (halt_fault e) (HasFault 0 p.tape.source.now)
fault_known p e reading bad closes = of (halt_fault e) bad
  where
    of : (o : Option Fault) → IsSomeAnd o (IsBadWhenCut p.at (drop p.at p.tape.source.now))
        → IsSomeAnd o (HasFault 0 p.tape.source.now)
    of (Some f) known = fault_closed p f reading known closes
    of None known = known

-- at the end of the source, if no default is open, the sink holds the parts of its template
pub holds_template : {S : Type 0} {holds : S → List Part → Type 0} {limit : ℕ} (old mid : Parser S)
    → IsReading holds limit old → IsFlushed holds old mid → length old.tape.source.now ≤ old.at
    → old.defaults.items ≡ []
    → HoldsTemplate holds old.tape.source.now mid.sink
holds_template old mid reading given end none =
    let s = old.tape.source.now in
    let nested : StackHoldsFlushed s [] old.depth given.parts old.at old.at =
    subst (λ ds. StackHoldsFlushed s ds old.depth given.parts old.at old.at) (ap reverse none) given.nested in
    let level = nested.1.level in
    record {
      parts = given.parts;
      held = given.held;
      template = record {
        tree = level.tree;
        spells = record {
          well_formed = level.read.well_formed;
          spelled = level.read.spelled ∙ ap (λ x. text level.tree ++ x) (drop_all old.at s end)
              ∙ append-nil (text level.tree);
        };
        mean = level.mean;
      };
    }

-- a sink can take the part of an optional variable
pub optional_fits : {S First : Type 0} {holds : HoldsFrom S First} {source : First → List ℕ → Type 0}
    {limit : ℕ} (old mid : Parser S) (name : Span) (first : First) → source first old.tape.source.now
    → IsReading (since holds first) limit old
    → (given : IsFlushed (since holds first) old mid)
    → IsOptional old.tape.source.now old.at name
    → CanTake holds source limit mid.sink (λ index. Default name (index + 1))
optional_fits old mid name first known reading given is = record {
  first = first;
  s = old.tape.source.now;
  known = known;
  inside = (is.head.named.inside, is.head.named.valid);
  few = omega (
    arith,
    reading.small,
    given.few,
    optional_inside old.tape.source.now old.at name is,
    is.head.starts,
    is.head.named.ends,
  );
  parts = given.parts;
  held = given.held;
  fits = omega (
    arith,
    reading.fits,
    given.few,
    optional_inside old.tape.source.now old.at name is,
    is.head.starts,
    is.head.named.ends,
  );
}

-- a sink can take the plain bytes as a part
pub literal_fits : {S First : Type 0} {holds : HoldsFrom S First} {source : First → List ℕ → Type 0}
    {limit : ℕ}
    (p : Parser S) (first : First) → source first p.tape.source.now → IsReading (since holds first) limit p
    → p.literal_start < p.at
    → CanTake holds source limit p.sink (λ _. Literal (record { start = p.literal_start; end = p.at }))
literal_fits p first known reading some = record {
  first = first;
  s = p.tape.source.now;
  parts = reading.parts;
  held = reading.held;
  known = known;
  fits = (omega (arith, reading.fits, reading.within, some), omega (arith, reading.fits, reading.within));
  inside = record { ordered = omega (arith, some); within = reading.within };
  few = omega (arith, reading.few, reading.small, reading.within, some);
}

-- a sink can take the part of the next bytes
pub part_fits : {S First : Type 0} {holds : HoldsFrom S First} {source : First → List ℕ → Type 0} {limit : ℕ}
    (old mid : Parser S) (part : Part) (end : ℕ) (first : First) → source first old.tape.source.now
    → IsReading (since holds first) limit old → (given : IsFlushed (since holds first) old mid)
    → FitsBelow limit part
    → IsPart old.tape.source.now old.at end (length given.parts) part
    → end ≤ length old.tape.source.now → old.at < end
    → CanTake holds source limit mid.sink (λ _. part)
part_fits old mid part end first known reading given fits is within forward = record {
  first = first;
  s = old.tape.source.now;
  parts = given.parts;
  held = given.held;
  known = known;
  fits = fits;
  inside = is.mean.fit.0.0;
  few = omega (arith, given.few, reading.small, within, forward);
}

-- a sink can take the part of a default that opens
pub open_fits : {S First : Type 0} {holds : HoldsFrom S First} {source : First → List ℕ → Type 0} {limit : ℕ}
    (old mid : Parser S) (name : Span) (first : First) → source first old.tape.source.now
    → IsReading (since holds first) limit old → (given : IsFlushed (since holds first) old mid)
    → IsInBraces old.tape.source.now old.at name colon
    → CanTake holds source limit mid.sink (λ _. Default name 0)
open_fits old mid name first known reading given head =
    let inside = head_inside old.tape.source.now old.at name colon head reading.within in
    let fits = name_fits head.named reading.fits in
    record {
      first = first;
      s = old.tape.source.now;
      parts = given.parts;
      held = given.held;
      known = known;
      fits = (fits.0, fits.1, omega (arith, reading.fits, inside));
      inside = (head.named.inside, head.named.valid);
      few = omega (arith, given.few, reading.small, inside, head.starts, head.named.ends);
    }
