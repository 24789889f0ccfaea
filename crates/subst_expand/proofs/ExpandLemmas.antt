-- The parts that an expansion visits, and the index at which it continues.
use Rattle.std.proofs.Common.{◌≡◌, ℕ, ◌+◌, ◌-◌, ◌<◌, ◌≤◌, zero, suc, Option, Some, None, List, [], ◌∷◌, length, drop, take, unwrap_or, refl, sym, ap, ◌∙◌, subst, arith}
use Rattle.std.proofs.lemmas.List.{drop-drop, length-take-le}
use Rattle.std.specs.List.{slice_get}
use Rattle.std.specs.Option.{option_map}
use Rattle.subst_language.specs.Language.LookUp.{LookUp}
use Rattle.subst_language.specs.Language.Steps.{Step, Given, given_or}
use Rattle.subst_language.specs.Calls.VariableMap.{ReadsAs, look_up_of}
use Rattle.subst_language.specs.Parts.Span.{span_bytes}
use Rattle.subst_expand.specs.Context.{jump_of}
use Rattle.subst_language.specs.Parts.Meaning.{FitsAt, AllFit, JumpsWithin, if_found, resume_index, visited_parts, next_if_found, next_index}
use Rattle.subst_language.specs.declared.part.Span.{Span}
use Rattle.subst_language.specs.declared.part.Part.{Part}
use Rattle.subst_language.specs.declared.part.Part.TheVariants.{Literal, Escaped, Variable, Default}
use Rattle.subst_language.proofs.PartsLemmas.{fit_at, visited_parts-before, visited_parts-from, visited_parts-anywhere}
use Rattle.subst_language.proofs.Language.ListLemmas.{IsElementAt, element_at, around}

-- a part of a list that fits, fits at its index
pub fits_there : (end : ℕ) (s : List ℕ) {parts : List Part} {at : ℕ} {part : Part} → AllFit 0 end s parts
    → IsElementAt parts at part → FitsAt at end s part
fits_there end s {parts = parts} {at = at} {part = part} fit here =
    subst (λ n. FitsAt n end s part) (omega (arith, length-take-le at parts (omega (arith, here.below))))
    (fit_at 0 end s (take at parts) part (drop (at + 1) parts)
    (subst (AllFit 0 end s) (sym (around here)) fit))

-- a part that was read from the list is there
pub part_here : {read parts : List Part} {at : ℕ} {found part : Part} → slice_get read at ≡ Some found
    → read ≡ parts → found ≡ part → IsElementAt parts at part
part_here {at = at} reads same is =
    element_at (ap (λ (xs : List Part). slice_get xs at) (sym same) ∙ reads ∙ ap Some is)

-- an index after the last part that was read is after the last part
pub none_here : {read parts : List Part} {at : ℕ} → length read ≤ at → read ≡ parts → length parts ≤ at
none_here {at = at} past same = subst (λ (xs : List Part). length xs ≤ at) same past

-- an expansion that jumps into a list visits its parts of the rest alone
visited_parts-jump : (k i : ℕ) (s : List ℕ) (xs : List Part) (look : LookUp)
    → visited_parts xs i (i + k) s look ≡ visited_parts (drop k xs) (i + k) 0 s look
visited_parts-jump zero i s xs look =
    visited_parts-anywhere xs i (i + 0) s look (omega arith)
    ∙ ap (λ n. visited_parts xs n 0 s look) (omega arith)
visited_parts-jump (suc k) i s [] look = refl
visited_parts-jump (suc k) i s (part ∷ xs) look =
    visited_parts-before part xs i (i + suc k) s look (omega arith)
    ∙ ap (λ n. visited_parts xs (i + 1) n s look) (omega arith)
    ∙ visited_parts-jump k (i + 1) s xs look
    ∙ ap (λ n. visited_parts (drop k xs) n 0 s look) (omega arith)

-- from a later index on, an expansion of the rest of a list visits its parts of the list from there
visited_parts-from_jump : (parts : List Part) (i next : ℕ) (s : List ℕ) (look : LookUp) → i ≤ next
    → visited_parts (drop i parts) i next s look ≡ visited_parts (drop next parts) next 0 s look
visited_parts-from_jump parts i next s look forward =
    let there : i + (next - i) ≡ next = omega arith in
    ap (λ n. visited_parts (drop i parts) i n s look) (sym there)
    ∙ visited_parts-jump (next - i) i s (drop i parts) look
    ∙ ap (λ (rest : List Part). visited_parts rest (i + (next - i)) 0 s look) (drop-drop (next - i) i parts)
    ∙ ap (λ n. visited_parts (drop n parts) n 0 s look) there

-- an expansion at the index `at` visits the part there, and continues at the index `next`
pub record GoesOn (parts : List Part) (s : List ℕ) (look : LookUp) (at : ℕ) (part : Part) (next : ℕ)
    : Type 0 where
  pub visits : visited_parts (drop at parts) at 0 s look
      ≡ part ∷ visited_parts (drop next parts) next 0 s look

-- the part at an index is visited, and then the rest from the index at which it resumes
pub visited_parts-here : (parts : List Part) (at : ℕ) (part : Part) (s : List ℕ) (look : LookUp)
    → IsElementAt parts at part
    → visited_parts (drop at parts) at 0 s look
    ≡ part ∷ visited_parts (drop (at + 1) parts) (at + 1) (resume_index part s look) s look
visited_parts-here parts at part s look here =
    ap (λ (rest : List Part). visited_parts rest at 0 s look) here.spelled
    ∙ visited_parts-from part (drop (at + 1) parts) at 0 s look (omega arith)

-- an expansion continues after a part that makes no jump
pub goes_on_after : {parts : List Part} {s : List ℕ} {look : LookUp} {at : ℕ} {part : Part}
    → IsElementAt parts at part → resume_index part s look ≡ 0
    → GoesOn parts s look at part (at + 1)
goes_on_after {parts = parts} {s = s} {look = look} {at = at} {part = part} here no_jump = record {
  visits = visited_parts-here parts at part s look here
      ∙ ap (λ n. part ∷ visited_parts (drop (at + 1) parts) (at + 1) n s look) no_jump;
}

-- after a default whose name has a value, it continues at the end of the jump
pub goes_on_there : {parts : List Part} {s : List ℕ} {look : LookUp} {at next : ℕ} {name : Span}
    {key x : List ℕ}
    → IsElementAt parts at (Default name next) → at < next → key ≡ span_bytes name s → look key ≡ Some x
    → GoesOn parts s look at (Default name next) next
goes_on_there {parts = parts} {s = s} {look = look} {at = at} {next = next}
    {name = name} here forward named found =
    record {
      visits =
          visited_parts-here parts at (Default name next) s look here
          ∙ ap (λ (o : Option (List ℕ)). Default name next
          ∷ visited_parts (drop (at + 1) parts) (at + 1) (if_found o next) s look)
          (ap look (sym named) ∙ found)
          ∙ ap (λ (rest : List Part). Default name next ∷ rest)
          (visited_parts-from_jump parts (at + 1) next s look (omega arith));
    }

-- in a default whose name has no value, it continues at the first part
pub goes_on_inside : {parts : List Part} {s : List ℕ} {look : LookUp} {at next : ℕ} {name : Span}
    {key : List ℕ}
    → IsElementAt parts at (Default name next) → key ≡ span_bytes name s → look key ≡ None
    → GoesOn parts s look at (Default name next) (at + 1)
goes_on_inside {look = look} here named missing = goes_on_after here (rw (sym named, missing) refl)

-- the index at which an expansion continues after a part with a default
goes_on_default : (parts : List Part) (s : List ℕ) (look : LookUp) (at : ℕ) (name : Span) (next : ℕ)
    (found : Option (List ℕ)) → IsElementAt parts at (Default name next) → at < next
    → look (span_bytes name s) ≡ found
    → GoesOn parts s look at (Default name next) (next_if_found found next (at + 1))
goes_on_default parts s look at name next (Some x) here forward is = goes_on_there here forward refl is
goes_on_default parts s look at name next None here forward is = goes_on_inside here refl is

-- the index at which it continues after any part
pub goes_on : {parts : List Part} {s : List ℕ} {look : LookUp} {at : ℕ} (end : ℕ) (part : Part)
    → IsElementAt parts at part → JumpsWithin at end part
    → GoesOn parts s look at part (next_index part s look (at + 1))
goes_on end (Literal span) here jumps = goes_on_after here refl
goes_on end (Escaped b) here jumps = goes_on_after here refl
goes_on end (Variable name) here jumps = goes_on_after here refl
goes_on {parts = parts} {s = s} {look = look} {at = at} end (Default name next) here jumps =
    goes_on_default parts s look at name next (look (span_bytes name s)) here jumps.0 refl

-- whether a value was found or not, the next index is after that of a part with a default, and within the
-- list
found_within : (at next end : ℕ) (found : Option (List ℕ)) → at < next → next ≤ end → at < end
    → (at < next_if_found found next (at + 1)) × (next_if_found found next (at + 1) ≤ end)
found_within at next end (Some x) forward inside below = (forward, inside)
found_within at next end None forward inside below = (omega arith, omega (arith, below))

-- the next index is after that of any part, and within the list
pub next_within : {at end : ℕ} (s : List ℕ) (look : LookUp) (part : Part) → JumpsWithin at end part → at < end
    → (at < next_index part s look (at + 1)) × (next_index part s look (at + 1) ≤ end)
next_within s look (Literal span) jumps below = (omega arith, omega (arith, below))
next_within s look (Escaped b) jumps below = (omega arith, omega (arith, below))
next_within s look (Variable name) jumps below = (omega arith, omega (arith, below))
next_within {at = at} {end = end} s look (Default name next) jumps below =
    found_within at next end (look (span_bytes name s)) jumps.0 jumps.1 below

-- an expansion continues at the end of a part's jump, or else at the index after the part
pub after_jump : {Seen : Type 0} (look_up : List ℕ → Option Seen) (bytes : Seen → List ℕ) (s : List ℕ)
    (part : Part) (after : ℕ)
    → unwrap_or (jump_of look_up s part) after ≡ next_index part s (look_up_of bytes look_up) after
after_jump look_up bytes s (Literal span) after = refl
after_jump look_up bytes s (Escaped b) after = refl
after_jump look_up bytes s (Variable name) after = refl
after_jump {Seen} look_up bytes s (Default name next) after = of (look_up (span_bytes name s))
  where
    of : (found : Option Seen)
        → unwrap_or (option_map (λ _. next) found) after ≡ next_if_found (option_map bytes found) next after
    of (Some v) = refl
    of None = refl

-- if the map has a value for a name, the look-up has its bytes
pub has_value : {V Seen : Type 0} (items : V → List ℕ) (see : V → Seen) (bytes : Seen → List ℕ)
    (look_up : List ℕ → Option Seen)
    {key x : List ℕ} (v : V) → ReadsAs items see bytes → Some (see v) ≡ look_up key → x ≡ items v
    → look_up_of bytes look_up key ≡ Some x
has_value items see bytes look_up v reads has gives =
    ap (option_map bytes) (sym has) ∙ ap Some (sym (reads v) ∙ sym gives)

-- if the map has none, neither has the look-up
pub has_none : {Seen : Type 0} (bytes : Seen → List ℕ) (look_up : List ℕ → Option Seen) {key : List ℕ}
    → None ≡ look_up key
    → look_up_of bytes look_up key ≡ None
has_none bytes look_up has = ap (option_map bytes) (sym has)

-- so the step of a part with a found value is that of these bytes
pub found_gives : {V Seen : Type 0} (items : V → List ℕ) (see : V → Seen) (look_up : List ℕ → Option Seen)
    {key named x : List ℕ} (v : V) (others : List Step) → key ≡ named → Some (see v) ≡ look_up key
    → x ≡ items v → (bytes : Seen → List ℕ) → ReadsAs items see bytes
    → given_or (look_up_of bytes look_up named) others ≡ Given x ∷ []
found_gives items see look_up v others same has gives bytes reads =
    rw (sym same, has_value items see bytes look_up v reads has gives) refl
