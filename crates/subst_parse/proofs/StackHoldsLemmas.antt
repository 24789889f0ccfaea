-- The effect of the parser's steps on the text that is read: each changes the innermost text alone.
use Rattle.std.proofs.Common.{◌≡◌, ℕ, suc, ◌+◌, ◌-◌, ◌<◌, ◌≤◌, Bool, true, false, List, [], ◌∷◌, ◌++◌, length, drop, refl, sym, ap, ◌∙◌, subst, append_assoc, append-nil, length-append, arith}
use Rattle.subst_language.specs.Language.Bytes.{colon, closing_brace, opening_brace}
use Rattle.subst_language.specs.Language.Tree.{Tree, Empty, Then, text}
use Rattle.subst_language.specs.Language.Tree as tree
use Rattle.subst_language.specs.Language.Balanced.{IsBalanced}
use Rattle.subst_language.specs.Language.Balanced.IsBalanced.{empty}
use Rattle.subst_parse.specs.ByteRun.{IsRun}
use Rattle.subst_parse.specs.Inner.{IsInner}
use Rattle.subst_language.specs.Language.Bytes.{IsPlain}
use Rattle.subst_language.specs.Parts.Span.{span_bytes}
use Rattle.subst_parse.specs.Placeholder.{IsInBraces}
use Rattle.subst_language.specs.Parts.Meaning.{kind_before, PartsMean}
use Rattle.subst_language.specs.Lemmas.PlainEnds.{HasNoPlainEnds}
use Rattle.subst_language.specs.Lemmas.Closing.{ChangesDepth}
use Rattle.subst_parse.specs.Parsing.{IsTreeAt, IsParsedWithTail, IsOpenDefault, StackHolds, StackHoldsFlushed}
use Rattle.subst_language.specs.declared.part.Span.{Span}
use Rattle.subst_language.specs.declared.part.Part.{Part}
use Rattle.subst_language.specs.declared.part.Part.TheVariants.{Literal, Default}
use Rattle.subst_parse.specs.declared.parse.OpenDefault.{OpenDefault}
use Rattle.std.proofs.lemmas.List.{append_cancel_right}
use Rattle.subst_language.specs.Lemmas.Closing.{Completes}
use Rattle.subst_language.proofs.Language.CountLemmas.{no_plain_ends}
use Rattle.subst_language.proofs.Language.ItemLemmas.{default_balanced}
use Rattle.subst_parse.proofs.ByteRunLemmas.{run_append, run_nothing, run_one}
use Rattle.subst_parse.proofs.InnerLemmas.{inner_balanced, run_of_inner}
use Rattle.subst_language.proofs.PartsLemmas.{mean_nothing, mean_default}
use Rattle.subst_parse.proofs.ParsedLemmas.{add_item, current_any, give_part, no_part}
use Rattle.subst_parse.proofs.TreeAtLemmas.{after_name, default_tree_at}
use Rattle.subst_parse.proofs.DepthLemmas.{depth_append, depth_balanced, depth_opening, depth_closing}

-- a step of the text inside a default
change_inside : {pending pending' : Bool} {s : List ℕ} {default : OpenDefault} {depth : ℕ} {parts : List Part}
    {literal_start at : ℕ} {Around : List Part → ℕ → Type 0}
    (z : List ℕ) (new : List Part) (after literal_start' at' : ℕ)
    → (inside : IsOpenDefault pending s default depth parts literal_start at Around)
    → drop at s ≡ z ++ drop at' s
    → ((start i : ℕ) (own : List Part) → i + length own ≡ length parts
    → IsParsedWithTail pending s start literal_start at i own
    → IsParsedWithTail pending' s start literal_start' at' i (own ++ new))
    → (bare : ℕ) → after ≡ suc (default.depth + bare) → ChangesDepth z inside.bare bare
    → IsOpenDefault pending' s default after (parts ++ new) literal_start' at' Around
change_inside {s = s} {default = default}
    {parts = parts} z new after literal_start' at' inside reads step bare braces takes =
    record {
      before = inside.before;
      own = inside.own ++ new;
      splits = ap (λ parts. parts ++ new) inside.splits
          ∙ append_assoc inside.before (Default default.name 0 ∷ inside.own) new;
      part = inside.part;
      position = inside.position;
      head = inside.head;
      current = step (default.name.end + 1) (length inside.before + 1) inside.own
          (omega (arith, simp length-append at (ap length inside.splits))) inside.current;
      bare = bare;
      braces = braces;
      read = inside.read ++ z;
      spelled = inside.spelled ∙ rw (reads, append_assoc) refl;
      change = depth_append 0 inside.bare bare inside.read z inside.change takes;
      around = inside.around;
    }

-- a step that opens and closes no braces
change : {pending pending' : Bool} (s : List ℕ) (defaults : List OpenDefault) (depth : ℕ) (parts : List Part)
    (literal_start at : ℕ)
    (z : List ℕ) (new : List Part) (literal_start' at' : ℕ)
    → drop at s ≡ z ++ drop at' s
    → ((start i : ℕ) (own : List Part) → i + length own ≡ length parts
    → IsParsedWithTail pending s start literal_start at i own
    → IsParsedWithTail pending' s start literal_start' at' i (own ++ new))
    → ((d : ℕ) → ChangesDepth z d d)
    → StackHolds pending s defaults depth parts literal_start at
    → StackHolds pending' s defaults depth (parts ++ new) literal_start' at'
change s [] depth parts literal_start at z new literal_start' at' reads step takes within =
    (within.0, step 0 0 parts (omega arith) within.1)
change s (default ∷ defaults) depth parts literal_start at z new literal_start' at' reads step takes inside =
    change_inside z new depth literal_start' at' inside reads step inside.bare inside.braces
    (takes inside.bare)

-- the pending bytes don't begin after the position
pub holds_ordered : (s : List ℕ) (defaults : List OpenDefault) (depth : ℕ) (parts : List Part)
    (literal_start at : ℕ)
    → StackHolds true s defaults depth parts literal_start at → literal_start ≤ at
holds_ordered s [] depth parts literal_start at within = omega (arith, within.1.run.ends)
holds_ordered s (default ∷ defaults) depth parts literal_start at within =
    omega (arith, within.current.run.ends)

-- the plain bytes become a part
pub holds_given : (s : List ℕ) (defaults : List OpenDefault) (depth : ℕ) (parts : List Part)
    (literal_start at : ℕ)
    → literal_start < at → at ≤ length s → StackHolds true s defaults depth parts literal_start at
    → StackHoldsFlushed s defaults depth (parts ++ Literal (record { start = literal_start; end = at }) ∷ [])
    at at
holds_given s defaults depth parts literal_start at some inside within =
    change s defaults depth parts literal_start at []
    (Literal (record { start = literal_start; end = at }) ∷ []) at at refl
    (λ start i own position current. give_part some inside current) (λ d. depth_balanced d empty) within

-- if there are none, nothing changes
pub holds_same : (s : List ℕ) (defaults : List OpenDefault) (depth : ℕ) (parts : List Part)
    (literal_start at : ℕ)
    → at ≤ literal_start → StackHolds true s defaults depth parts literal_start at
    → StackHoldsFlushed s defaults depth parts at at
holds_same s defaults depth parts literal_start at none within =
    subst (λ ps. StackHoldsFlushed s defaults depth ps at at) (append-nil parts)
    (change s defaults depth parts literal_start at [] [] at at refl
    (λ start i own position current. subst (λ ps. IsParsedWithTail false s start at at i ps)
    (sym (append-nil own)) (no_part none current))
    (λ d. depth_balanced d empty) within)

-- a tree is added, with its parts
pub holds_tree : (s : List ℕ) (defaults : List OpenDefault) (depth : ℕ) (parts new : List Part) (at to : ℕ)
    (t : Tree)
    → IsTreeAt s at to t → IsBalanced (text t) → HasNoPlainEnds t → PartsMean s (length parts) new at t
    → StackHoldsFlushed s defaults depth parts at at → StackHolds true s defaults depth (parts ++ new) to to
holds_tree s defaults depth parts new at to t at_tree balanced apart mean within =
    change s defaults depth parts at at (text t) new to to at_tree.spelled
    (λ start i own position current. add_item current at_tree apart
    (subst (λ k. PartsMean s k new at t) (sym position) mean))
    (λ d. depth_balanced d balanced) within

-- a run of plain bytes, if no default is open
pub holds_run : (s : List ℕ) (parts : List Part) (literal_start at to : ℕ) → IsRun IsPlain s at to
    → StackHolds true s [] 0 parts literal_start at → StackHolds true s [] 0 parts literal_start to
holds_run s parts literal_start at to run within =
    (refl, record { level = within.1.level; run = run_append within.1.run run; begins = within.1.begins })

-- more plain bytes
longer : {s : List ℕ} {start literal_start at to i : ℕ} {own : List Part} → IsRun IsPlain s at to
    → IsParsedWithTail true s start literal_start at i own
    → IsParsedWithTail true s start literal_start to i (own ++ [])
longer {s} {start} {literal_start} {at} {to} {i} {own} run current =
    subst (λ ps. IsParsedWithTail true s start literal_start to i ps) (sym (append-nil own)) (record {
      level = current.level;
      run = run_append current.run run;
      begins = current.begins;
    })

-- a byte inside a default that leaves this many bare braces open
byte_inside : (s : List ℕ) (default : OpenDefault) (defaults : List OpenDefault) (depth after : ℕ)
    (parts : List Part) (literal_start at b bare : ℕ)
    → IsPlain b → drop at s ≡ b ∷ drop (at + 1) s
    → (within : StackHolds true s (default ∷ defaults) depth parts literal_start at)
    → after ≡ suc (default.depth + bare) → ChangesDepth (b ∷ []) within.bare bare
    → StackHolds true s (default ∷ defaults) after parts literal_start (at + 1)
byte_inside s default defaults depth after parts literal_start at b bare plain reads within braces takes =
    subst (λ ps. StackHolds true s (default ∷ defaults) after ps literal_start (at + 1)) (append-nil parts)
    (change_inside (b ∷ []) [] after literal_start (at + 1) within reads
    (λ start i own position current. longer (run_one plain reads) current) bare braces takes)

-- a run of bytes that are no braces
pub holds_inner : (s : List ℕ) (default : OpenDefault) (defaults : List OpenDefault) (depth : ℕ)
    (parts : List Part) (literal_start at to : ℕ) → IsRun IsInner s at to
    → StackHolds true s (default ∷ defaults) depth parts literal_start at
    → StackHolds true s (default ∷ defaults) depth parts literal_start to
holds_inner s default defaults depth parts literal_start at to run within =
    subst (λ ps. StackHolds true s (default ∷ defaults) depth ps literal_start to) (append-nil parts)
    (change_inside run.run [] depth literal_start to within run.spelled
    (λ start i own position current. longer (run_of_inner run) current) within.bare within.braces
    (depth_balanced within.bare (inner_balanced run.run run.each)))

-- a bare opening brace
pub holds_opening : (s : List ℕ) (default : OpenDefault) (defaults : List OpenDefault) (depth : ℕ)
    (parts : List Part) (literal_start at : ℕ)
    → drop at s ≡ opening_brace ∷ drop (at + 1) s
    → StackHolds true s (default ∷ defaults) depth parts literal_start at
    → StackHolds true s (default ∷ defaults) (depth + 1) parts literal_start (at + 1)
holds_opening s default defaults depth parts literal_start at reads within =
    byte_inside s default defaults depth (depth + 1) parts literal_start at opening_brace (suc within.bare)
    (λ is. omega (arith, is), λ is. omega (arith, is)) reads within (omega (arith, within.braces))
    (depth_opening within.bare)

-- the closing brace of a bare one
pub holds_closing : (s : List ℕ) (default : OpenDefault) (defaults : List OpenDefault) (depth : ℕ)
    (parts : List Part) (literal_start at : ℕ)
    → ¬ (default.depth + 1 ≡ depth) → drop at s ≡ closing_brace ∷ drop (at + 1) s
    → StackHolds true s (default ∷ defaults) depth parts literal_start at
    → StackHolds true s (default ∷ defaults) (depth - 1) parts literal_start (at + 1)
holds_closing s default defaults depth parts literal_start at bare reads within =
    let some : suc (within.bare - 1) ≡ within.bare = omega (arith, within.braces) in
    byte_inside s default defaults depth (depth - 1) parts literal_start at closing_brace (within.bare - 1)
    (λ is. omega (arith, is), λ is. omega (arith, is)) reads within (omega (arith, within.braces))
    (subst (λ d. ChangesDepth (closing_brace ∷ []) d (within.bare - 1)) some
    (depth_closing (within.bare - 1)))

-- a default opens
pub holds_default : (s : List ℕ) (defaults : List OpenDefault) (depth : ℕ) (parts : List Part) (at : ℕ)
    (name : Span)
    → IsInBraces s at name colon → StackHoldsFlushed s defaults depth parts at at
    → StackHolds true s (record { part = length parts; depth = depth; name = name } ∷ defaults) (depth + 1)
    (parts ++ Default name 0 ∷ [])
    (name.end + 1) (name.end + 1)
holds_default s defaults depth parts at name front within = record {
  before = parts;
  own = [];
  splits = refl;
  part = refl;
  position = at;
  head = front;
  current = record {
    level = record {
      tree = Empty;
      read = record { well_formed = tt; followed = tt; spelled = refl; ends = omega arith };
      mean = mean_nothing s (length parts + 1) (name.end + 1);
    };
    run = run_nothing IsPlain s (name.end + 1);
    begins = λ pending. refl;
  };
  bare = 0;
  braces = omega arith;
  read = [];
  spelled = refl;
  change = depth_balanced 0 empty;
  around = within;
}

-- the text of a default, up to a point where no bare brace is open, is balanced
read_balanced : (s : List ℕ) (default : OpenDefault) (depth : ℕ) (parts : List Part) (at : ℕ)
    (Around : List Part → ℕ → Type 0)
    (inside : IsOpenDefault false s default depth parts at at Around) → default.depth + 1 ≡ depth
    → IsBalanced (text inside.current.level.tree)
read_balanced s default depth parts at Around inside closes =
    let none : 0 ≡ inside.bare = omega (arith, inside.braces) in
    let same : inside.read ≡ text inside.current.level.tree =
    append_cancel_right inside.read (text inside.current.level.tree) (drop at s)
    (sym inside.spelled ∙ inside.current.level.read.spelled) in
    let balanced = inside.change.completed [] (subst (λ d. Completes d []) none empty) in
    subst IsBalanced same (rw append-nil at balanced)

-- a default closes: its part's jump is set
pub holds_closed : (s : List ℕ) (default : OpenDefault) (defaults : List OpenDefault) (depth : ℕ)
    (parts : List Part) (at : ℕ)
    → default.depth + 1 ≡ depth → drop at s ≡ closing_brace ∷ drop (at + 1) s
    → (inside : StackHoldsFlushed s (default ∷ defaults) depth parts at at)
    → StackHolds true s defaults default.depth
    (inside.before ++ Default default.name (length parts) ∷ inside.own) (at + 1) (at + 1)
holds_closed s default defaults depth parts at closes reads inside =
    let name = default.name in
    let level = inside.current.level in
    let t = level.tree in
    let n = span_bytes name s in
    let balanced =
    read_balanced s default depth parts at
    (λ before position. StackHoldsFlushed s defaults default.depth before position position) inside closes in
    let count : length parts ≡ length inside.before + 1 + length inside.own =
    omega (arith, simp length-append at (ap length inside.splits)) in
    let start : name.end + 1 ≡ inside.position + 3 + length n =
    omega (arith, inside.head.starts, inside.head.named.ends) in
    let mean : PartsMean s (length inside.before) (Default name (length parts) ∷ inside.own)
    inside.position (Then (tree.Default n t) Empty) =
    subst
    (λ next. PartsMean s (length inside.before) (Default name next ∷ inside.own) inside.position
    (Then (tree.Default n t) Empty)) (sym count)
    (mean_default s (length inside.before) name inside.own inside.position t inside.head.named.inside
    inside.head.named.valid inside.head.starts
    (ap kind_before (after_name s inside.position name colon inside.head))
    (subst (λ p. PartsMean s (length inside.before + 1) inside.own p t) start level.mean)) in
    holds_tree s defaults default.depth inside.before
    (Default name (length parts) ∷ inside.own) inside.position (at + 1)
    (Then (tree.Default n t) Empty)
    (default_tree_at s inside.position (at + 1) name t inside.head level.read.well_formed balanced
    (level.read.spelled ∙ rw reads refl) (omega (arith, level.read.ends)))
    (rw append-nil (default_balanced n (text t) inside.head.named.valid balanced))
    (no_plain_ends (tree.Default n t) refl) mean inside.around

-- a state with pending bytes is one without that condition
pub holds_any : (s : List ℕ) (defaults : List OpenDefault) (depth : ℕ) (parts : List Part)
    (literal_start at : ℕ)
    → StackHolds true s defaults depth parts literal_start at
    → StackHoldsFlushed s defaults depth parts literal_start at
holds_any s defaults depth parts literal_start at within =
    subst (λ ps. StackHoldsFlushed s defaults depth ps literal_start at) (append-nil parts)
    (change s defaults depth parts literal_start at [] [] literal_start at refl
    (λ start i own position current. subst (λ ps. IsParsedWithTail false s start literal_start at i ps)
    (sym (append-nil own)) (current_any current))
    (λ d. depth_balanced d empty) within)

-- the state in which only plain bytes have been read
pub holds_start : (s : List ℕ) (at : ℕ) → IsRun IsPlain s 0 at → StackHolds true s [] 0 [] 0 at
holds_start s at plain = (
  refl,
  record {
    level = record {
      tree = Empty;
      read = record { well_formed = tt; followed = tt; spelled = refl; ends = refl };
      mean = mean_nothing s 0 0;
    };
    run = plain;
    begins = λ pending. refl;
  },
)

-- if some brace is open, some default is
pub holds_open : (s : List ℕ) (defaults : List OpenDefault) (depth : ℕ) (parts : List Part)
    (literal_start at : ℕ)
    → 0 < depth
    → StackHolds true s defaults depth parts literal_start at
    → (default : OpenDefault) × (rest : List OpenDefault) × (defaults ≡ default ∷ rest)
holds_open s [] depth parts literal_start at some within = absurd (omega (arith, within.0))
holds_open s (default ∷ rest) depth parts literal_start at some within = (default, rest, refl)

-- if no brace is open, no default is
pub holds_top : (s : List ℕ) (defaults : List OpenDefault) (depth : ℕ) (parts : List Part)
    (literal_start at : ℕ)
    → depth ≡ 0
    → StackHolds true s defaults depth parts literal_start at → defaults ≡ []
holds_top s [] depth parts literal_start at none within = refl
holds_top s (default ∷ rest) depth parts literal_start at none within = absurd (omega (arith, within.braces))

-- if a default is open, some brace is
pub holds_some : (s : List ℕ) (inner : List OpenDefault) (outermost : OpenDefault) (depth : ℕ)
    (parts : List Part) (literal_start at : ℕ)
    → StackHoldsFlushed s (inner ++ outermost ∷ []) depth parts literal_start at → 0 < depth
holds_some s [] outermost depth parts literal_start at within = omega (arith, within.braces)
holds_some s (default ∷ inner) outermost depth parts literal_start at within = omega (arith, within.braces)
