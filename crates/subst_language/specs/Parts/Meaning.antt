-- The meaning of a list of parts over a source.
use Rattle.std.specs.Prelude.{◌≡◌, ℕ, ◌+◌, ◌<◌, ◌≤◌, List, [], ◌∷◌, ◌++◌, ◌==◌, drop, length, map, Option, Some, None, nat_lt, if◌then◌else◌}
use Rattle.std.specs.List.{filter_map}
use Rattle.subst_language.specs.Language.Name.{IsName}
use Rattle.subst_language.specs.Language.Tree.{Tree}
use Rattle.subst_language.specs.Language.Sentence.{Spells}
use Rattle.subst_language.specs.Language.LookUp.{LookUp}
use Rattle.subst_language.specs.Language.Steps.{Step, Own, Lacks, steps_value, given_or, steps_of}
use Rattle.subst_language.specs.Language.Value.{Value}
use Rattle.subst_language.specs.Language.Written.{steps_written}
use Rattle.subst_language.specs.Language.Counts.{visited_count}
use Rattle.subst_language.specs.Language.Bytes.{question_mark}
use Rattle.subst_language.specs.Language.Variables as variables
use Rattle.subst_language.specs.Language.Variables.{Kind, variables_of, lacked}
use Rattle.subst_language.specs.Parts.Span.{IsSpan, span_bytes}
use Rattle.subst_language.specs.declared.part.Part.{Part}
use Rattle.subst_language.specs.declared.part.Part.TheVariants.{Literal, Escaped, Variable, Default}

-- the part's range is in the source s, and the range of a variable or default holds a name; an escaped byte
-- is below 256
abbrev pub IsInSource : List ℕ → Part → Type 0
IsInSource s (Literal span) = IsSpan s span
IsInSource s (Escaped b) = b < 256
IsInSource s (Variable name) = IsSpan s name × IsName (span_bytes name s)
IsInSource s (Default name next) = IsSpan s name × IsName (span_bytes name s)

-- if the part is a default with index i, its `next` is above i and at most `end`
abbrev pub JumpsWithin : ℕ → ℕ → Part → Type 0
JumpsWithin i end (Default name next) = (i < next) × (next ≤ end)
JumpsWithin i end part = Unit {0}

-- the part with index i is in the source s and, if it is a default, its `next` is above i and at most `end`
abbrev pub FitsAt : ℕ → ℕ → List ℕ → Part → Type 0
FitsAt i end s part = IsInSource s part × JumpsWithin i end part

-- each part of the list fits, as `FitsAt` defines it; the first has index i
abbrev pub AllFit : ℕ → ℕ → List ℕ → List Part → Type 0
AllFit i end s [] = Unit {0}
AllFit i end s (part ∷ rest) = FitsAt i end s part × AllFit (i + 1) end s rest

-- the steps of a single part, without those of a default's own parts
abbrev pub part_steps : Part → List ℕ → LookUp → List Step
part_steps (Literal span) s look = map Own (span_bytes span s)
part_steps (Escaped b) s look = Own b ∷ []
part_steps (Variable name) s look =
    given_or (look (span_bytes name s)) (Lacks name.start (span_bytes name s) ∷ [])
part_steps (Default name next) s look = given_or (look (span_bytes name s)) []

-- the steps of each part in turn, with no part skipped
abbrev pub steps_in : List Part → List ℕ → LookUp → List Step
steps_in [] s look = []
steps_in (part ∷ rest) s look = part_steps part s look ++ steps_in rest s look

-- `next` if a value was found, else 0
abbrev pub if_found : Option (List ℕ) → ℕ → ℕ
if_found (Some x) next = next
if_found None next = 0

-- the index at which an expansion resumes after a default whose name has a value; 0 after any other part
abbrev pub resume_index : Part → List ℕ → LookUp → ℕ
resume_index (Default name next) s look = if_found (look (span_bytes name s)) next
resume_index _ s look = 0

-- the parts of a list that an expansion visits if it skips those before index `from`; the first part of the
-- list has index i
abbrev pub visited_parts : List Part → ℕ → ℕ → List ℕ → LookUp → List Part
visited_parts [] i from s look = []
visited_parts (part ∷ rest) i from s look =
    if nat_lt i from then visited_parts rest (i + 1) from s look
    else part ∷ visited_parts rest (i + 1) (resume_index part s look) s look

-- the steps of a list of parts: those of its visited parts
abbrev pub parts_steps : List Part → List ℕ → LookUp → List Step
parts_steps parts s look = steps_in (visited_parts parts 0 0 s look) s look

-- the value of a list of parts of the source s
abbrev pub parts_value : List Part → List ℕ → LookUp → Value
parts_value parts s look = steps_value (parts_steps parts s look)

-- the bytes written for a list of parts, up to the first missing variable
abbrev pub parts_written : List Part → List ℕ → LookUp → List ℕ
parts_written parts s look = steps_written (parts_steps parts s look)

-- the kind of a variable that isn't required: `OrNothing` if the text after its name begins with `?`, else
-- `OrDefault`
abbrev pub kind_before : List ℕ → Kind
kind_before [] = variables.OrDefault
kind_before (b ∷ rest) = if b == question_mark then variables.OrNothing else variables.OrDefault

-- the variable of a part, as a list of one, or no variable
abbrev pub part_variables : Part → List ℕ → List variables.Variable
part_variables (Variable name) s = variables.required name.start (span_bytes name s) ∷ []
part_variables (Default name next) s =
    record { position = name.start; name = span_bytes name s; kind = kind_before (drop name.end s) } ∷ []
part_variables part s = []

-- the variables of a list of parts of the source s, in order
abbrev pub variables_in : List Part → List ℕ → List variables.Variable
variables_in [] s = []
variables_in (part ∷ rest) s = part_variables part s ++ variables_in rest s

-- the variable that a part needs but the look-up lacks, as a list of one; the empty list if there is none
abbrev pub part_missing : Part → List ℕ → LookUp → List variables.Variable
part_missing (Variable name) s look = filter_map lacked (part_steps (Variable name) s look)
part_missing part s look = []

-- `next` if a value was found, else `after`
abbrev pub next_if_found : Option (List ℕ) → ℕ → ℕ → ℕ
next_if_found (Some x) next after = next
next_if_found None next after = after

-- the index of the part that an expansion visits after this one; `after` is this part's index plus 1
abbrev pub next_index : Part → List ℕ → LookUp → ℕ → ℕ
next_index (Default name next) s look after = next_if_found (look (span_bytes name s)) next after
next_index part s look after = after

-- the missing variables of a list of parts of the source s
abbrev pub parts_missing : List Part → List ℕ → LookUp → List variables.Variable
parts_missing parts s look = filter_map lacked (parts_steps parts s look)

-- The parts mean the tree t: they have the variables of t and, under each look-up, the steps of t and as many
-- visited parts as t. The first part has index i, and the tree's text begins at position p of the source s.
pub record PartsMean (s : List ℕ) (i : ℕ) (parts : List Part) (p : ℕ) (t : Tree) : Type 0 where
  pub fit : AllFit i (i + length parts) s parts
  pub same_steps : (look : LookUp) → steps_in (visited_parts parts i 0 s look) s look ≡ steps_of p t look
  pub same_variables : variables_in parts s ≡ variables_of p t
  pub same_count : (look : LookUp) → length (visited_parts parts i 0 s look) ≡ visited_count t look

-- the parts mean the tree of the source s
pub record IsTemplateOf (s : List ℕ) (parts : List Part) : Type 0 where
  pub tree : Tree
  pub spells : Spells tree s
  pub mean : PartsMean s 0 parts 0 tree
