-- The cells that a sink writes keep the parts that it takes.
use Rattle.std.proofs.Common.{◌≡◌, ℕ, suc, ◌+◌, ◌-◌, Bool, true, false, nat_lt, set, get_or, Option, Some, None, List, [], ◌∷◌, ◌++◌, take, length, length-append, append-nil, append_assoc, Result, Ok, Err, refl, sym, ap, ◌∙◌, subst, arith}
use Rattle.std.proofs.lemmas.Grind.{fold-append}
use Rattle.std.specs.Prelude.{OnErr, ◌==◌, if◌then◌else◌}
use Rattle.subst_language.specs.Language.Variables.{Variable}
use Rattle.subst_language.specs.Parts.Meaning.{part_variables, variables_in}
use Rattle.subst_language.specs.Parts.Span.{span_bytes}
use Rattle.subst_language.specs.Parts.Sink.{Adds, HasLength, Keeps}
use Rattle.subst_language.specs.declared.part.Span.{Span}
use Rattle.subst_language.specs.declared.part.Part.{Part}
use Rattle.subst_language.specs.declared.part.Part.TheVariants.{Literal, Escaped, Default}
use Rattle.subst_language.specs.declared.part.Part.TheVariants as part
use Rattle.subst_indexed.specs.Cell.{decoded}
use Rattle.subst_indexed.specs.Names.{AllNamed, KeepsNumbers, name_bytes, uses_of}
use Rattle.subst_indexed.specs.Numbering.{FirstUse, first_uses, with_use, with_variables, IsKept, AllKept}
use Rattle.subst_indexed.specs.Sink.{AddsNames, HoldsKept, IsUnchanged, KeepsFirst, PushesCell, PushesDefault, SinkHolds}
use Rattle.subst_indexed.specs.declared.cell.Cell.{Cell}
use Rattle.subst_indexed.specs.declared.cell.NumberedPart.{NumberedPart}
use Rattle.subst_indexed.specs.declared.cell.NumberedPart.TheVariants as numbered
use Rattle.subst_indexed.specs.declared.cell.TheConstants.{LITERAL, ESCAPED, VARIABLE, DEFAULT}
use Rattle.subst_indexed.specs.declared.cell_sink.CellSink.{CellSink}
use Rattle.subst_indexed.specs.declared.names.Name.{Name}

-- as many cells as parts
pub kept_length : (s : List ℕ) (names : List (List ℕ)) (at : ℕ) (parts : List Part) (cells : List Cell)
    → AllKept s names at parts cells → length parts ≡ length cells
kept_length s names at [] [] kept = refl
kept_length s names at [] (cell ∷ cells) kept = absurd kept
kept_length s names at (part ∷ parts) [] kept = absurd kept
kept_length s names at (part ∷ parts) (cell ∷ cells) kept =
    omega (arith, kept_length s names (at + 1) parts cells kept.1)

-- a part is kept if more names have numbers
kept_with : (s : List ℕ) (old new : List (List ℕ)) (at : ℕ) (part : Part) (kept : Option NumberedPart)
    → KeepsNumbers old new → IsKept s old at part kept → IsKept s new at part kept
kept_with s old new at (Literal span) (Some (numbered.Literal start end)) keeps is = is
kept_with s old new at (Escaped b) (Some (numbered.Escaped c)) keeps is = is
kept_with s old new at (part.Variable name) (Some (numbered.Variable start end number)) keeps is =
    (is.0, is.1, keeps (span_bytes name s) number is.2)
kept_with s old new at (Default name next) (Some (numbered.Default jump number)) keeps is =
    (is.0, keeps (span_bytes name s) number is.1)
kept_with s old new at part kept keeps is = absurd is

-- so are all parts
pub all_kept_with : (s : List ℕ) (old new : List (List ℕ)) (at : ℕ) (parts : List Part) (cells : List Cell)
    → KeepsNumbers old new → AllKept s old at parts cells → AllKept s new at parts cells
all_kept_with s old new at [] [] keeps kept = tt
all_kept_with s old new at [] (cell ∷ cells) keeps kept = absurd kept
all_kept_with s old new at (part ∷ parts) [] keeps kept = absurd kept
all_kept_with s old new at (part ∷ parts) (cell ∷ cells) keeps kept = (
  kept_with s old new at part (decoded cell) keeps kept.0,
  all_kept_with s old new (at + 1) parts cells keeps kept.1,
)

-- one part more is kept
pub all_kept_push : (s : List ℕ) (names : List (List ℕ)) (at end : ℕ) (parts : List Part) (cells : List Cell)
    (part : Part) (cell : Cell) → end ≡ at + length parts → AllKept s names at parts cells
    → IsKept s names end part (decoded cell)
    → AllKept s names at (parts ++ part ∷ []) (cells ++ cell ∷ [])
all_kept_push s names at end [] [] part cell is kept last =
    (subst (λ n. IsKept s names n part (decoded cell)) (omega arith) last, tt)
all_kept_push s names at end [] (first ∷ cells) part cell is kept last = absurd kept
all_kept_push s names at end (first ∷ parts) [] part cell is kept last = absurd kept
all_kept_push s names at end (first ∷ parts) (other ∷ cells) part cell is kept last =
    (kept.0, all_kept_push s names (at + 1) end parts cells part cell (omega arith) kept.1 last)

-- the variables of parts and one more
variables_in-push : (parts : List Part) (part : Part) (s : List ℕ)
    → variables_in (parts ++ part ∷ []) s ≡ variables_in parts s ++ part_variables part s
variables_in-push [] part s = append-nil (part_variables part s)
variables_in-push (first ∷ parts) part s =
    ap (λ it. part_variables first s ++ it) (variables_in-push parts part s)
    ∙ sym (append_assoc (part_variables first s) (variables_in parts s) (part_variables part s))

-- their first uses
first_uses-push : (uses : List FirstUse) (parts : List Part) (part : Part) (s : List ℕ)
    → uses ≡ first_uses (variables_in parts s)
    → with_variables uses (part_variables part s) ≡ first_uses (variables_in (parts ++ part ∷ []) s)
first_uses-push uses parts part s is =
    ap (λ it. with_variables it (part_variables part s)) is
    ∙ sym (ap first_uses (variables_in-push parts part s)
    ∙ fold-append (λ known variable. with_use known (record { position = variable.position; name = variable.name }))
    [] (variables_in parts s) (part_variables part s))

-- nothing is added for no variables
pub no_names : (sink : CellSink) → AddsNames [] sink sink
no_names sink = record {
  cells = refl;
  source = refl;
  keeps = λ name number is. is;
  named = λ named. named;
  uses = refl;
}

-- the same cells keep the same parts
pub keeps_parts : (old new : CellSink) → IsUnchanged old new → Keeps SinkHolds old new
keeps_parts old new same = λ first parts held. record {
  source = same.source ∙ held.source;
  head = held.head;
  cells = held.cells;
  splits = same.cells ∙ held.splits;
  kept = subst (λ it. AllKept it (name_bytes new.names.list.items) 0 parts held.cells) (sym same.source)
      (subst (λ it. AllKept old.source.now (name_bytes it) 0 parts held.cells) (sym same.names) held.kept);
  named = subst (λ it. AllNamed it new.names.list.items) (sym same.source)
      (subst (λ it. AllNamed old.source.now it) (sym same.names) held.named);
  uses = ap uses_of same.names ∙ held.uses ∙ ap (λ it. first_uses (variables_in parts it)) (sym same.source);
}

module _ (old mid new : CellSink) where
  -- a cell that keeps a part was appended, after the names of the part's variables
  pub adds_part : (part : ℕ → Part) (kept : NumberedPart) (variables : List Variable)
      → AddsNames variables old mid
      → ((index : ℕ) → variables ≡ part_variables (part index) old.source.now)
      → ((first : List ℕ) (parts : List Part) → SinkHolds old first parts
      → IsKept old.source.now (name_bytes mid.names.list.items) (length parts) (part (length parts)) (Some kept))
      → PushesCell kept mid new → Adds SinkHolds old part new
  adds_part part kept variables adds are is pushed = λ first parts held.
      let last = part (length parts) in
      let s = old.source.now in
      let same : new.source.now ≡ s = pushed.source ∙ adds.source in
      let names = mid.names.list.items in
      let all : AllKept s (name_bytes names) 0 (parts ++ last ∷ []) (held.cells ++ pushed.cell ∷ []) =
      all_kept_push s (name_bytes names) 0 (length parts) parts held.cells last pushed.cell (omega arith)
      (all_kept_with s (name_bytes old.names.list.items) (name_bytes names) 0 parts held.cells adds.keeps
      held.kept)
      (subst (λ it. IsKept s (name_bytes names) (length parts) last it) (sym pushed.keeps)
      (is first parts held))
      in
      record {
        source = same ∙ held.source;
        head = held.head;
        cells = held.cells ++ pushed.cell ∷ [];
        splits = pushed.cells ∙ ap (λ it. it ++ pushed.cell ∷ []) (adds.cells ∙ held.splits);
        kept =
            subst (λ it. AllKept it (name_bytes new.names.list.items) 0 (parts ++ last ∷ [])
            (held.cells ++ pushed.cell ∷ [])) (sym same)
            (subst (λ it. AllKept s (name_bytes it) 0 (parts ++ last ∷ []) (held.cells ++ pushed.cell ∷ []))
            (sym pushed.names) all);
        named = subst (λ it. AllNamed it new.names.list.items) (sym same)
            (subst (λ it. AllNamed s it) (sym pushed.names) (adds.named held.named));
        uses = ap uses_of pushed.names ∙ adds.uses
            ∙ ap (with_variables (uses_of old.names.list.items)) (are (length parts))
            ∙ first_uses-push (uses_of old.names.list.items) parts last s held.uses
            ∙ ap (λ it. first_uses (variables_in (parts ++ last ∷ []) it)) (sym same);
      }

-- a default's cell was appended
pub adds_default : (old new : CellSink) (name : Span) (next : ℕ → ℕ) (jump : ℕ)
    → ((first : List ℕ) (parts : List Part) → SinkHolds old first parts
    → jump ≡ next (length parts) - (length parts + 1))
    → PushesDefault name jump old new → Adds SinkHolds old (λ index. Default name (next index)) new
adds_default old new name next jump jumps pushed =
    adds_part old pushed.mid new (λ index. Default name (next index)) (numbered.Default jump pushed.number)
    (part_variables (Default name 0) old.source.now) pushed.adds (λ index. refl)
    (λ first parts held. (jumps first parts held, pushed.numbered)) pushed.pushes

-- a new name that is cut off again leaves the sink unchanged
pub unchanged_after : (old mid : CellSink) (known : ℕ) (new : CellSink) → mid.cells.items ≡ old.cells.items
    → mid.source.now ≡ old.source.now → known ≡ length old.names.list.items
    → take (length old.names.list.items) mid.names.list.items ≡ old.names.list.items
    → KeepsFirst known mid new → IsUnchanged old new
unchanged_after old mid known new cells source is front cut = record {
  cells = cut.cells ∙ cells;
  names = cut.names ∙ ap (λ n. take n mid.names.list.items) is ∙ front;
  source = cut.source ∙ source;
}

-- a sink has a cell more than it holds parts
pub cells_length : (s : List ℕ) (all : List Cell) (names : List Name) (first : List ℕ) (parts : List Part)
    → HoldsKept s all names first parts → length all ≡ length parts + 1
cells_length s all names first parts held =
    omega (arith, ap length held.splits, kept_length s (name_bytes names) 0 parts held.cells held.kept)

-- a fact that holds in any case holds after an error
pub on_any_err : {T E P : Type 0} (result : Result T E) → P → OnErr result P
on_any_err (Ok done) p = tt
on_any_err (Err e) p = p

-- the index of the next part is the number of parts
pub has_length : (sink : CellSink) (index len : ℕ) → index ≡ len - 1 → len ≡ length sink.cells.items
    → HasLength SinkHolds sink index
has_length sink index len is all = λ first parts held.
    let more = cells_length sink.source.now sink.cells.items sink.names.list.items first parts held in
    omega (arith, is, all, more)

-- the part that a cell keeps, by the tests of its kind, and of its byte
abbrev of_tests : (literal escaped byte variable default : Bool) → (first second number : ℕ)
    → Option NumberedPart
of_tests literal escaped byte variable default first second number =
    if literal then Some (numbered.Literal first second)
    else if escaped then (if byte then Some (numbered.Escaped first) else None)
    else if variable then Some (numbered.Variable first second number)
    else if default then Some (numbered.Default first number)
    else None

module _ (s : List ℕ) (names : List (List ℕ)) (name : Span) (next jump : ℕ) where
  -- the cell of a default keeps it with another jump
  kept_closed : (at : ℕ) (literal escaped byte same_byte variable default : Bool) (first second number : ℕ)
      → jump ≡ next - (at + 1)
      → IsKept s names at (Default name 0) (of_tests literal escaped byte variable default first second number)
      → IsKept s names at (Default name next)
      (of_tests literal escaped same_byte variable default jump second number)
  kept_closed at true escaped byte same_byte variable default first second number jumps is = absurd is
  kept_closed at false true true same_byte variable default first second number jumps is = absurd is
  kept_closed at false true false same_byte variable default first second number jumps is = absurd is
  kept_closed at false false byte same_byte true default first second number jumps is = absurd is
  kept_closed at false false byte same_byte false true first second number jumps is = (jumps, is.1)
  kept_closed at false false byte same_byte false false first second number jumps is = absurd is

  -- so do the cells of parts that have this default
  all_kept_closed : (at : ℕ) (before own : List Part) (cells : List Cell) (d : Cell)
      → jump ≡ next - (at + length before + 1) → AllKept s names at (before ++ Default name 0 ∷ own) cells
      → AllKept s names at (before ++ Default name next ∷ own)
      (set cells (length before) (record (get_or cells (length before) d) { first = jump }))
  all_kept_closed at [] own [] d jumps kept = absurd kept
  all_kept_closed at [] own (cell ∷ cells) d jumps kept = (
    kept_closed at (cell.kind == LITERAL) (cell.kind == ESCAPED) (nat_lt cell.first 256) (nat_lt jump 256)
        (cell.kind == VARIABLE) (cell.kind == DEFAULT) cell.first cell.second cell.number
        (omega (arith, jumps)) kept.0,
    kept.1,
  )
  all_kept_closed at (part ∷ before) own [] d jumps kept = absurd kept
  all_kept_closed at (part ∷ before) own (cell ∷ cells) d jumps kept =
      (kept.0, all_kept_closed (at + 1) before own cells d (omega (arith, jumps)) kept.1)

-- where a default ends makes no difference to the variables
variables_in-closed : (before own : List Part) (name : Span) (next : ℕ) (s : List ℕ)
    → variables_in (before ++ Default name 0 ∷ own) s ≡ variables_in (before ++ Default name next ∷ own) s
variables_in-closed [] own name next s = refl
variables_in-closed (part ∷ before) own name next s =
    ap (λ it. part_variables part s ++ it) (variables_in-closed before own name next s)

-- a cell after a head is changed
set_after_head : (all : List Cell) (head : Cell) (cells : List Cell) (i n jump : ℕ) (read : Cell)
    → all ≡ head ∷ cells → i ≡ suc n → read ≡ get_or all i read
    → set all i (record read { first = jump })
    ≡ head ∷ set cells n (record (get_or cells n read) { first = jump })
set_after_head all head cells i n jump read is at reads =
    ap (λ it. set it i (record read { first = jump })) is
    ∙ ap (λ j. set (head ∷ cells) j (record read { first = jump })) at
    ∙ ap (λ (r : Cell). head ∷ set cells n (record r { first = jump }))
    (reads ∙ ap (λ it. get_or it i read) is ∙ ap (λ j. get_or (head ∷ cells) j read) at)

module _ (s : List ℕ) (all : List Cell) (names : List Name) (first : List ℕ) (before own : List Part)
    (name : Span) (held : HoldsKept s all names first (before ++ Default name 0 ∷ own)) where
  -- the sink has a cell more than the parts
  pub open_length : length all ≡ length before + length own + 2
  open_length =
      omega (
        arith,
        cells_length s all names first (before ++ Default name 0 ∷ own) held,
        length-append before (Default name 0 ∷ own),
      )

  -- the default is closed
  pub holds_closed : (index jump : ℕ) (read : Cell) → index ≡ length before → jump ≡ length own
      → read ≡ get_or all (index + 1) read
      → HoldsKept s (set all (index + 1) (record read { first = jump })) names first
      (before ++ Default name (length (before ++ Default name 0 ∷ own)) ∷ own)
  holds_closed index jump read at jumps reads = record {
    source = held.source;
    head = held.head;
    cells = set held.cells (length before) (record (get_or held.cells (length before) read) { first = jump });
    splits = set_after_head all held.head held.cells (index + 1) (length before) jump read held.splits
        (omega (arith, at)) reads;
    kept = all_kept_closed s (name_bytes names) name (length (before ++ Default name 0 ∷ own)) jump 0 before own
        held.cells read (omega (arith, jumps, length-append before (Default name 0 ∷ own))) held.kept;
    named = held.named;
    uses = held.uses ∙ ap first_uses
        (variables_in-closed before own name (length (before ++ Default name 0 ∷ own)) s);
  }
