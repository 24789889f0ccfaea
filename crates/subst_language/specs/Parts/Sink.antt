-- The effect of calls to a sink on the parts that it holds.
use Rattle.std.specs.Prelude.{◌≡◌, ℕ, ◌+◌, ◌^◌, ◌<◌, List, [], ◌∷◌, ◌++◌, length}
use Rattle.std.specs.List.{AllByRecursion}
use Rattle.subst_language.specs.Parts.Meaning.{IsInSource, JumpsWithin, IsTemplateOf}
use Rattle.subst_language.specs.declared.part.Span.{Span}
use Rattle.subst_language.specs.declared.part.Part.{Part}
use Rattle.subst_language.specs.declared.part.Part.TheVariants.{Literal, Escaped, Variable, Default}

-- the type of relations between a sink, its first state and the parts that the sink holds
abbrev pub HoldsFrom : (S First : Type 0) → Type 1
HoldsFrom S First = S → First → List Part → Type 0

-- the relation of a sink and the parts that it holds, for this first state
abbrev pub since : {S First : Type 0} → HoldsFrom S First → First → S → List Part → Type 0
since holds first sink parts = holds sink first parts

-- the sink holds some list of parts
abbrev pub HoldsSome : {S First : Type 0} → HoldsFrom S First → S → First → Type 0
HoldsSome holds sink first = (parts : List Part) × holds sink first parts

-- the sink holds the parts of a template of the source s
pub record HoldsTemplate {S : Type 0} (holds : S → List Part → Type 0) (s : List ℕ) (sink : S) : Type 0 where
  pub parts : List Part
  pub held : holds sink parts
  pub template : IsTemplateOf s parts

-- each offset and index in the part is below the limit
abbrev pub FitsBelow : ℕ → Part → Type 0
FitsBelow limit (Literal span) = (span.start < limit) × (span.end < limit)
FitsBelow limit (Escaped b) = Unit {0}
FitsBelow limit (Variable name) = (name.start < limit) × (name.end < limit)
FitsBelow limit (Default name next) = (name.start < limit) × (name.end < limit) × (next < limit)

-- if the part is a default, it is closed: its `next` is set, and at most `end`
abbrev pub IsClosed : ℕ → Part → Type 0
IsClosed end part = JumpsWithin 0 end part

-- each default in the list is closed: its `next` is set, and at most `end`
abbrev pub AllClosed : ℕ → List Part → Type 0
AllClosed end parts = AllByRecursion (IsClosed end) parts

-- The sink can take `part i`, where i is the number of parts that it holds. The ranges of `part i` are in the
-- source of the sink's first state. The part's offsets and its `next` are below the limit.
pub record CanTake {S First : Type 0} (holds : HoldsFrom S First) (source : First → List ℕ → Type 0)
    (limit : ℕ) (sink : S) (part : ℕ → Part) : Type 0 where
  pub first : First
  pub s : List ℕ
  pub parts : List Part
  pub held : holds sink first parts
  pub known : source first s
  pub fits : FitsBelow limit (part (length parts))
  pub inside : IsInSource s (part (length parts))
  pub few : length parts + 1 < 2 ^ 64

-- the sink holds the same parts before and after
abbrev pub Keeps : {S First : Type 0} → HoldsFrom S First → S → S → Type 0
Keeps {First = First} holds before after =
    (first : First) (parts : List Part) → holds before first parts → holds after first parts

-- `part i` is appended to the parts that the sink holds, whose number is i
abbrev pub Adds : {S First : Type 0} → HoldsFrom S First → S → (ℕ → Part) → S → Type 0
Adds {First = First} holds before part after = (first : First) (parts : List Part)
    → holds before first parts → holds after first (parts ++ part (length parts) ∷ [])

-- n is the number of parts that the sink holds
abbrev pub HasLength : {S First : Type 0} → HoldsFrom S First → S → ℕ → Type 0
HasLength {First = First} holds sink n = (first : First) (parts : List Part)
    → holds sink first parts → n ≡ length parts

-- The default with this index and name is open and can be closed. With the number of held parts as its
-- `next`, it fits below the limit.
pub record CanClose {S First : Type 0} (holds : HoldsFrom S First) (limit : ℕ) (sink : S) (index : ℕ)
    (name : Span) : Type 0 where
  pub first : First
  pub before : List Part
  pub own : List Part
  pub held : holds sink first (before ++ Default name 0 ∷ own)
  pub is : index ≡ length before
  pub fits : FitsBelow limit (Default name (length (before ++ Default name 0 ∷ own)))

-- the innermost open default, which has this index and name, is closed: its `next` is the number of parts
-- that the sink holds
abbrev pub ClosesDefault : {S First : Type 0} → HoldsFrom S First → S → ℕ → Span → S → Type 0
ClosesDefault {First = First} holds sink index name after = (first : First) (before own : List Part)
    → index ≡ length before → AllClosed (length (before ++ Default name 0 ∷ own)) own
    → holds sink first (before ++ Default name 0 ∷ own)
    → holds after first (before ++ Default name (length (before ++ Default name 0 ∷ own)) ∷ own)
