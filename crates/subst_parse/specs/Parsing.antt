-- The text that the parser has read so far, and the meaning of the parser's parts and open defaults.
use Rattle.std.specs.Prelude.{◌≡◌, ℕ, suc, ◌+◌, ◌^◌, ◌<◌, ◌≤◌, List, [], ◌∷◌, ◌++◌, length, drop, reverse, Bool, true, false, IsTrue, Result, Ok, Err, IfNone, IfSome}
use Rattle.subst_language.specs.Language.Bytes.{colon, IsPlain}
use Rattle.subst_language.specs.Language.Tree.{Tree, text}
use Rattle.subst_language.specs.Language.WellFormed.{IsWellFormed}
use Rattle.subst_language.specs.Language.Followed.{IsFollowed}
use Rattle.subst_language.specs.Language.Balanced.{IsBalanced}
use Rattle.subst_language.specs.Language.BadItem.{HasFault}
use Rattle.subst_language.specs.Calls.Clauses.{ContainsDefault}
use Rattle.subst_parse.specs.ByteRun.{IsRun}
use Rattle.subst_language.specs.Lemmas.Closing.{ChangesDepth}
use Rattle.subst_parse.specs.Halt.{halt_fault}
use Rattle.subst_parse.specs.Placeholder.{IsInBraces}
use Rattle.subst_language.specs.Parts.Sink.{HoldsFrom, HoldsSome, since}
use Rattle.subst_language.specs.Lemmas.PlainEnds.{ends_plain, HasNoPlainEnds}
use Rattle.subst_language.specs.Parts.Meaning.{PartsMean}
use Rattle.subst_language.specs.declared.part.Part.{Part}
use Rattle.subst_language.specs.declared.part.Part.TheVariants.{Default}
use Rattle.subst_parse.specs.declared.halt.Halt.{Halt}
use Rattle.subst_parse.specs.declared.parse.OpenDefault.{OpenDefault}
use Rattle.subst_parse.specs.declared.parse.Parser.{Parser}

-- in from..to, the source s has the text of the well-formed tree t; the bytes from `to` on don't continue a
-- name at the end of t
pub record IsTreeAt (s : List ℕ) (from to : ℕ) (t : Tree) : Type 0 where
  pub well_formed : IsWellFormed t
  pub followed : IsFollowed t (drop to s)
  pub spelled : drop from s ≡ text t ++ drop to s
  pub ends : to ≡ from + length (text t)

-- s has the text of a well-formed tree in start..at, and the parts mean this tree; the first part has index i
pub record IsParsed (s : List ℕ) (start at i : ℕ) (parts : List Part) : Type 0 where
  pub tree : Tree
  pub read : IsTreeAt s start at tree
  pub mean : PartsMean s i parts start tree

-- The source s is parsed in start..literal_start, as in `IsParsed`, and then has plain bytes without a part,
-- up to `at`. If `pending` is true, the tree before these bytes doesn't end in a plain item, so that the
-- bytes are a run of their own.
pub record IsParsedWithTail (pending : Bool) (s : List ℕ) (start literal_start at i : ℕ) (parts : List Part)
    : Type 0 where
  pub level : IsParsed s start literal_start i parts
  pub run : IsRun IsPlain s literal_start at
  pub begins : IsTrue pending → ends_plain false level.tree ≡ false

-- The default is open: its part's `next` isn't set yet. The parts before that part belong to the text around
-- the default, and `Around` holds of them. The parts after it belong to the default's text so far, in which
-- bare braces may be open.
pub record IsOpenDefault (pending : Bool) (s : List ℕ) (default : OpenDefault) (depth : ℕ) (parts : List Part)
    (literal_start at : ℕ) (Around : List Part → ℕ → Type 0) : Type 0 where
  pub before : List Part
  pub own : List Part
  pub splits : parts ≡ before ++ Default default.name 0 ∷ own
  pub part : default.part ≡ length before
  pub position : ℕ
  pub head : IsInBraces s position default.name colon
  pub current : IsParsedWithTail pending s (default.name.end + 1) literal_start at (length before + 1) own
  pub bare : ℕ
  pub braces : depth ≡ suc (default.depth + bare)
  pub read : List ℕ
  pub spelled : drop (default.name.end + 1) s ≡ read ++ drop at s
  pub change : ChangesDepth read 0 bare
  pub around : Around before position

-- The source s is read up to `at`, and its plain bytes from `literal_start` on have no part yet. The listed
-- defaults are open, the innermost first. In all, `depth` braces are open. `pending` is as in
-- `IsParsedWithTail`.
abbrev pub StackHolds : Bool → List ℕ → List OpenDefault → ℕ → List Part → ℕ → ℕ → Type 0
StackHolds pending s [] depth parts literal_start at =
    (depth ≡ 0) × IsParsedWithTail pending s 0 literal_start at 0 parts
StackHolds pending s (default ∷ defaults) depth parts literal_start at =
    IsOpenDefault pending s default depth parts literal_start at
    (λ before position. StackHolds false s defaults default.depth before position position)

-- `StackHolds` after a flush: `pending` is false, since the parts so far may end in plain bytes
abbrev pub StackHoldsFlushed : List ℕ → List OpenDefault → ℕ → List Part → ℕ → ℕ → Type 0
StackHoldsFlushed s defaults depth parts literal_start at =
    StackHolds false s defaults depth parts literal_start at

-- The invariant of the parser between items. The parser's sink holds the parts so far, whose offsets and
-- indexes are below the limit. Each part covers at least one byte of the source, so no index is above the
-- source's length.
pub record IsReading {S : Type 0} (holds : S → List Part → Type 0) (limit : ℕ) (parser : Parser S)
    : Type 0 where
  pub parts : List Part
  pub held : holds parser.sink parts
  pub fits : length parser.tape.source.now < limit
  pub few : length parts ≤ parser.literal_start
  pub small : length parser.tape.source.now < 2 ^ 64
  pub within : parser.at ≤ length parser.tape.source.now
  pub shallow : parser.depth ≤ parser.at
  pub nested : StackHolds true parser.tape.source.now (reverse parser.defaults.items) parser.depth
      parts parser.literal_start parser.at

-- The state of the parser after a flush: the plain bytes that were pending in `before` have a part now.
pub record IsFlushed {S : Type 0} (holds : S → List Part → Type 0) (before after : Parser S) : Type 0 where
  pub kept : after ≡ record before { sink = after.sink; literal_start = before.at }
  pub parts : List Part
  pub held : holds after.sink parts
  pub few : length parts ≤ before.at
  pub nested : StackHoldsFlushed before.tape.source.now (reverse before.defaults.items) before.depth
      parts before.at before.at

-- The part with index i means a tree, whose text the source s has in from..to. The text is balanced, and the
-- tree neither begins nor ends with a plain item.
pub record IsPart (s : List ℕ) (from to i : ℕ) (part : Part) : Type 0 where
  pub tree : Tree
  pub at : IsTreeAt s from to tree
  pub balanced : IsBalanced (text tree)
  pub ends : HasNoPlainEnds tree
  pub mean : PartsMean s i (part ∷ []) from tree

-- the parser's invariant, `IsReading`, holds for some first state of the sink, and `source` relates this
-- state to the parser's source
abbrev pub IsReadingSince : {S First : Type 0} → HoldsFrom S First → (First → List ℕ → Type 0) → ℕ → Parser S
    → Type 0
IsReadingSince {First = First} holds source limit parser =
    (first : First) × source first parser.tape.source.now × IsReading (since holds first) limit parser

-- Q holds of each first state of the sink for which the invariant held in the parser's state `old`
abbrev pub FromReading : {S First : Type 0} → HoldsFrom S First → ℕ → Parser S → (First → Type 0) → Type 0
FromReading {First = First} holds limit old Q =
    (first : First) → IsReading (since holds first) limit old → Q first

-- the parser's invariant still holds in the state `new`, for each first state of the sink for which it held
-- in `old`
abbrev pub ReadsOn : {S First : Type 0} → HoldsFrom S First → ℕ → Parser S → Parser S → Type 0
ReadsOn holds limit old new = FromReading holds limit old (λ first. IsReading (since holds first) limit new)

-- One step of the parser: it advances, or returns the source's fault, or runs out of memory. With a sink that
-- never allocates, only open defaults take memory, so memory runs out only if the source begins a default.
abbrev pub StepsOrFails : {S First : Type 0} → HoldsFrom S First → ℕ → (asks : Type 0) → Parser S
    → Result (Unit {0}) Halt → Parser S → Type 0
StepsOrFails holds limit asks old (Ok _) new =
    ReadsOn holds limit old new × (new.tape.source ≡ old.tape.source) × (old.at < new.at)
StepsOrFails holds limit asks old (Err e) new =
    IfSome (halt_fault e) (HasFault 0 old.tape.source.now)
    × FromReading holds limit old (HoldsSome holds new.sink)
    × (¬ asks → IfNone (halt_fault e) (ContainsDefault old.tape.source.now))
