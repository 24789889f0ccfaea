-- Lists of parts: whether they fit, which parts an expansion visits, and their values.
use Rattle.std.proofs.Common.{◌≡◌, ℕ, ◌+◌, ◌<◌, ◌≤◌, suc, lt-ltb, le-ltb, false, Option, Some, None, inl, inr, List, [], ◌∷◌, ◌++◌, drop, length, map, length-append, append-nil, append_assoc, refl, sym, ap, ◌∙◌, subst, arith}
use Rattle.std.proofs.lemmas.Bool.{cases_lt}
use Rattle.subst_language.specs.Language.Name.{IsName}
use Rattle.subst_language.specs.Language.Tree.{Item, Short, Braced, Optional, Tree, Empty, Then, text}
use Rattle.subst_language.specs.Language.Tree as tree
use Rattle.subst_language.specs.Language.LookUp.{LookUp}
use Rattle.subst_language.specs.Language.Steps.{Own, Given, Lacks, steps_value, given_or, item_steps, steps_of}
use Rattle.subst_language.specs.Language.Value.{value}
use Rattle.subst_language.specs.Lemmas.PlainEnds.{ends_plain}
use Rattle.subst_language.specs.Language.Variables.{OrNothing, OrDefault, required, item_variables}
use Rattle.subst_language.specs.Language.Counts.{if_missing, visited_count_after, visited_count}
use Rattle.subst_language.specs.Parts.Span.{IsSpan, span_bytes}
use Rattle.subst_language.specs.Parts.Meaning.{FitsAt, JumpsWithin, AllFit, part_steps, steps_in, if_found, resume_index, visited_parts, kind_before, part_variables, variables_in, PartsMean}
use Rattle.subst_language.specs.Parts.Sink.{AllClosed}
use Rattle.subst_language.specs.declared.part.Span.{Span}
use Rattle.subst_language.specs.declared.part.Part.{Part}
use Rattle.subst_language.specs.declared.part.Part.TheVariants.{Literal, Escaped, Variable, Default}
use Rattle.subst_language.proofs.Language.PlainLemmas.{plains}
use Rattle.subst_language.proofs.Language.StepsLemmas.{steps_of-join, steps_of-plains, value-steps}
use Rattle.subst_language.specs.Language.Join.{join}
use Rattle.subst_language.proofs.Language.CountLemmas.{visited_count_after-join, visited_count-plains}
use Rattle.subst_language.proofs.Language.VariablesLemmas.{variables_of-join, variables_of-plains}

-- two lists of parts concatenated have the variables of both
variables_in-append : (xs ys : List Part) (s : List ℕ)
    → variables_in (xs ++ ys) s ≡ variables_in xs s ++ variables_in ys s
variables_in-append [] ys s = refl
variables_in-append (part ∷ xs) ys s = rw (variables_in-append xs ys s, append_assoc) refl

-- and the steps of both
pub steps_in-append : (xs ys : List Part) (s : List ℕ) (look : LookUp)
    → steps_in (xs ++ ys) s look ≡ steps_in xs s look ++ steps_in ys s look
steps_in-append [] ys s look = refl
steps_in-append (part ∷ xs) ys s look = rw (steps_in-append xs ys s look, append_assoc) refl

-- a part that jumps within a list from its index does so from an earlier one, and within a longer list
pub jumps_wider : (j i end wider : ℕ) (part : Part) → j ≤ i → end ≤ wider → JumpsWithin i end part
    → JumpsWithin j wider part
jumps_wider j i end wider (Literal span) from to jumps = tt
jumps_wider j i end wider (Escaped b) from to jumps = tt
jumps_wider j i end wider (Variable name) from to jumps = tt
jumps_wider j i end wider (Default name next) from to jumps =
    (omega (arith, jumps.0), omega (arith, jumps.1))

-- parts that fit up to an end fit up to a later one
pub fit_widen : (i end wider : ℕ) (s : List ℕ) (parts : List Part) → end ≤ wider → AllFit i end s parts
    → AllFit i wider s parts
fit_widen i end wider s [] le fit = tt
fit_widen i end wider s (part ∷ rest) le fit = (
  (fit.0.0, jumps_wider i i end wider part (omega arith) le fit.0.1),
  fit_widen (i + 1) end wider s rest le
      fit.1,
)

-- two lists of parts concatenated fit if each of them does
pub fit_append : (i end : ℕ) (s : List ℕ) (xs ys : List Part) → AllFit i end s xs
    → AllFit (i + length xs) end s ys
    → AllFit i end s (xs ++ ys)
fit_append i end s [] ys fit rest = subst (λ n. AllFit n end s ys) (omega arith) rest
fit_append i end s (part ∷ xs) ys fit rest =
    (fit.0, fit_append (i + 1) end s xs ys fit.1 (subst (λ n. AllFit n end s ys) (omega arith) rest))

-- each of two lists of parts fits if both, concatenated, do
pub fit_split : (i end : ℕ) (s : List ℕ) (xs ys : List Part) → AllFit i end s (xs ++ ys)
    → AllFit i end s xs × AllFit (i + length xs) end s ys
fit_split i end s [] ys fit = (tt, subst (λ n. AllFit n end s ys) (omega arith) fit)
fit_split i end s (part ∷ xs) ys fit =
    let split = fit_split (i + 1) end s xs ys fit.1 in
    ((fit.0, split.0), subst (λ n. AllFit n end s ys) (omega arith) split.1)

-- a part of a list that fits, fits at its index
pub fit_at : (i end : ℕ) (s : List ℕ) (xs : List Part) (part : Part) (ys : List Part)
    → AllFit i end s (xs ++ part ∷ ys) → FitsAt (i + length xs) end s part
fit_at i end s xs part ys fit = (fit_split i end s xs (part ∷ ys) fit).1.0

-- parts that fit have their jumps
pub closed_of_fit : (i end : ℕ) (s : List ℕ) (parts : List Part) → AllFit i end s parts → AllClosed end parts
closed_of_fit i end s [] fit = tt
closed_of_fit i end s (part ∷ rest) fit =
    (jumps_wider 0 i end end part (omega arith) (omega arith) fit.0.1, closed_of_fit (i + 1) end s rest fit.1)

-- a part before the index where an expansion resumes is skipped
pub visited_parts-before : (part : Part) (rest : List Part) (i from : ℕ) (s : List ℕ) (look : LookUp)
    → i < from
    → visited_parts (part ∷ rest) i from s look ≡ visited_parts rest (i + 1) from s look
visited_parts-before part rest i from s look below = rw (lt-ltb i from below) refl

-- a part from that index on is visited
pub visited_parts-from : (part : Part) (rest : List Part) (i from : ℕ) (s : List ℕ) (look : LookUp) → from ≤ i
    → visited_parts (part ∷ rest) i from s look
    ≡ part ∷ visited_parts rest (i + 1) (resume_index part s look) s look
visited_parts-from part rest i from s look above = rw (le-ltb i from above) refl

-- the steps of a visited part come first, then those of the parts visited after it
steps_in-first : (part : Part) (rest : List Part) (i from : ℕ) (s : List ℕ) (look : LookUp) → from ≤ i
    → steps_in (visited_parts (part ∷ rest) i from s look) s look
    ≡ part_steps part s look ++ steps_in (visited_parts rest (i + 1) (resume_index part s look) s look) s look
steps_in-first part rest i from s look above =
    ap (λ visited. steps_in visited s look) (visited_parts-from part rest i from s look above)

-- an expansion visits the same parts of a list wherever it resumes, up to the list's start
pub visited_parts-anywhere : (parts : List Part) (i from : ℕ) (s : List ℕ) (look : LookUp) → from ≤ i
    → visited_parts parts i from s look ≡ visited_parts parts i 0 s look
visited_parts-anywhere [] i from s look above = refl
visited_parts-anywhere (part ∷ rest) i from s look above =
    visited_parts-from part rest i from s look above
    ∙ sym (visited_parts-from part rest i 0 s look (omega arith))

-- a part that fits resumes at its end or before it
pub goes_on_within : (i end : ℕ) (s : List ℕ) (part : Part) (look : LookUp) → JumpsWithin i end part
    → resume_index part s look ≤ end
goes_on_within i end s (Literal span) look jumps = omega arith
goes_on_within i end s (Escaped b) look jumps = omega arith
goes_on_within i end s (Variable name) look jumps = omega arith
goes_on_within i end s (Default name next) look jumps = of (look (span_bytes name s))
  where
    of : (found : Option (List ℕ)) → if_found found next ≤ end
    of (Some x) = jumps.1
    of None = omega arith

-- each part resumes at this end or before it
abbrev pub Lands : ℕ → List ℕ → LookUp → List Part → Type 0
Lands end s look [] = Unit {0}
Lands end s look (part ∷ rest) = (resume_index part s look ≤ end) × Lands end s look rest

-- parts that fit do so
lands_fitting : (i end : ℕ) (s : List ℕ) (xs : List Part) (look : LookUp) → AllFit i end s xs
    → Lands end s look xs
lands_fitting i end s [] look fit = tt
lands_fitting i end s (part ∷ rest) look fit =
    (goes_on_within i end s part look fit.0.1, lands_fitting (i + 1) end s rest look fit.1)

-- an expansion of two lists visits the first's parts, then the second's, if no jump of the first leads past
-- its end
pub visited_parts-lands : (i end from : ℕ) (s : List ℕ) (xs ys : List Part) (look : LookUp)
    → Lands end s look xs → end ≤ i + length xs → from ≤ i + length xs
    → visited_parts (xs ++ ys) i from s look
    ≡ visited_parts xs i from s look ++ visited_parts ys (i + length xs) 0 s look
visited_parts-lands i end from s [] ys look lands inside above =
    visited_parts-anywhere ys i from s look (omega arith)
    ∙ ap (λ n. visited_parts ys n 0 s look) (omega arith)
visited_parts-lands i end from s (part ∷ xs) ys look lands inside above =
    elim (cases_lt i from) [
      | inl before ↦
          visited_parts-before part (xs ++ ys) i from s look before
          ∙ visited_parts-lands (i + 1) end from s xs ys look lands.1 (omega arith) (omega arith)
          ∙ ap (λ n. visited_parts xs (i + 1) from s look ++ visited_parts ys n 0 s look) (omega arith)
          ∙ sym (ap (λ visited. visited ++ visited_parts ys (i + length (part ∷ xs)) 0 s look)
          (visited_parts-before part xs i from s look before))
      | inr after ↦
          let jump = lands.0 in
          visited_parts-from part (xs ++ ys) i from s look after
          ∙ ap (λ visited. part ∷ visited)
          (visited_parts-lands (i + 1) end (resume_index part s look) s xs ys look lands.1 (omega arith)
          (omega arith))
          ∙ ap (λ n. part ∷ visited_parts xs (i + 1) (resume_index part s look) s look
          ++ visited_parts ys n 0 s look) (omega arith)
          ∙ sym (ap (λ visited. visited ++ visited_parts ys (i + length (part ∷ xs)) 0 s look)
          (visited_parts-from part xs i from s look after))
    ]

-- of two lists of parts that fit, concatenated, an expansion visits its parts of each
pub visited_parts-append : (i end from : ℕ) (s : List ℕ) (xs ys : List Part) (look : LookUp)
    → AllFit i end s xs → end ≤ i + length xs → from ≤ i + length xs
    → visited_parts (xs ++ ys) i from s look
    ≡ visited_parts xs i from s look ++ visited_parts ys (i + length xs) 0 s look
visited_parts-append i end from s xs ys look fit inside above =
    visited_parts-lands i end from s xs ys look (lands_fitting i end s xs look fit) inside above

-- an expansion visits no part before the index where it resumes
pub visited_parts-jumped : (i from : ℕ) (s : List ℕ) (xs : List Part) (look : LookUp) → i + length xs ≤ from
    → visited_parts xs i from s look ≡ []
visited_parts-jumped i from s [] look above = refl
visited_parts-jumped i from s (part ∷ xs) look above =
    visited_parts-before part xs i from s look (omega arith)
    ∙ visited_parts-jumped (i + 1) from s xs look (omega arith)

-- no parts mean nothing
pub mean_nothing : (s : List ℕ) (i p : ℕ) → PartsMean s i [] p Empty
mean_nothing s i p = record {
  fit = tt;
  same_steps = λ look. refl;
  same_variables = refl;
  same_count = λ look. refl;
}

-- two lists of parts concatenated mean their two trees, concatenated, if no run of plain bytes continues from
-- the first into the second
pub mean_append : (s : List ℕ) (i : ℕ) (xs ys : List Part) (p : ℕ) (t u : Tree)
    → ((look : LookUp) → visited_count_after (ends_plain false t) u look ≡ visited_count u look)
    → PartsMean s i xs p t → PartsMean s (i + length xs) ys (p + length (text t)) u
    → PartsMean s i (xs ++ ys) p (join t u)
mean_append s i xs ys p t u apart first second = record {
  fit = fit_append i (i + length (xs ++ ys)) s xs ys
      (fit_widen i (i + length xs) (i + length (xs ++ ys)) s xs (omega (arith, length-append xs ys))
      first.fit)
      (fit_widen (i + length xs) (i + length xs + length ys) (i + length (xs ++ ys)) s ys
      (omega (arith, length-append xs ys)) second.fit);
  same_steps = λ look.
      ap (λ visited. steps_in visited s look)
      (visited_parts-append i (i + length xs) 0 s xs ys look first.fit (omega arith) (omega arith))
      ∙ steps_in-append (visited_parts xs i 0 s look) (visited_parts ys (i + length xs) 0 s look) s look
      ∙ rw (first.same_steps look, second.same_steps look) (sym (steps_of-join p t u look));
  same_variables =
      variables_in-append xs ys s
      ∙ rw (first.same_variables, second.same_variables) (sym (variables_of-join p t u));
  same_count = λ look.
      omega (
        arith,
        ap length (visited_parts-append i (i + length xs) 0 s xs ys look first.fit (omega arith)
            (omega arith)),
        length-append (visited_parts xs i 0 s look) (visited_parts ys (i + length xs) 0 s look),
        first.same_count look,
        second.same_count look,
        apart look,
        visited_count_after-join false t u look,
      );
}

-- a part with the steps of an item, after which an expansion continues at the next part, means the item
mean_one : (s : List ℕ) (i : ℕ) (part : Part) (p : ℕ) (item : Item) → FitsAt i (i + 1) s part
    → ((look : LookUp) → part_steps part s look ≡ item_steps p item look)
    → part_variables part s ≡ item_variables p item
    → ((look : LookUp) → visited_count (Then item Empty) look ≡ 1)
    → PartsMean s i (part ∷ []) p (Then item Empty)
mean_one s i part p item fits same has one = record {
  fit = (fits, tt);
  same_steps =
      λ look. steps_in-first part [] i 0 s look (omega arith) ∙ ap (λ steps. steps ++ []) (same look);
  same_variables = ap (λ found. found ++ []) has;
  same_count = λ look. ap length (visited_parts-from part [] i 0 s look (omega arith)) ∙ sym (one look);
}

-- a literal means the plain bytes of its range, if there are any
pub mean_literal : (s : List ℕ) (i : ℕ) (span : Span) (p : ℕ) (x : List ℕ) → 0 < length x → IsSpan s span
    → span_bytes span s ≡ x
    → PartsMean s i (Literal span ∷ []) p (plains x)
mean_literal s i span p x some inside reads = record {
  fit = ((inside, tt), tt);
  same_steps = λ look.
      steps_in-first (Literal span) [] i 0 s look (omega arith)
      ∙ append-nil (map Own (span_bytes span s))
      ∙ ap (map Own) reads
      ∙ sym (steps_of-plains p x look);
  same_variables = sym (variables_of-plains p x);
  same_count = λ look. ap length (visited_parts-from (Literal span) [] i 0 s look (omega arith))
      ∙ sym (visited_count-plains x look some);
}

-- an escaped byte means its escape
pub mean_escaped : (s : List ℕ) (i b p : ℕ) → b < 256
    → PartsMean s i (Escaped b ∷ []) p (Then (tree.Escaped b) Empty)
mean_escaped s i b p fits =
    mean_one s i (Escaped b) p (tree.Escaped b) (fits, tt) (λ look. refl) refl (λ look. refl)

-- a variable whose name is after a dollar means the name without braces
pub mean_short : (s : List ℕ) (i : ℕ) (name : Span) (p : ℕ) → IsSpan s name → IsName (span_bytes name s)
    → name.start ≡ p + 1
    → PartsMean s i (Variable name ∷ []) p (Then (Short (span_bytes name s)) Empty)
mean_short s i name p inside named starts =
    mean_one s i (Variable name) p (Short (span_bytes name s)) ((inside, named), tt)
    (λ look. ap (λ position. given_or (look (span_bytes name s)) (Lacks position (span_bytes name s) ∷ []))
    starts)
    (ap (λ position. required position (span_bytes name s) ∷ []) starts) (λ look. refl)

-- a variable whose name is after a dollar and a brace means the name in braces
pub mean_braced : (s : List ℕ) (i : ℕ) (name : Span) (p : ℕ) → IsSpan s name → IsName (span_bytes name s)
    → name.start ≡ p + 2
    → PartsMean s i (Variable name ∷ []) p (Then (Braced (span_bytes name s)) Empty)
mean_braced s i name p inside named starts =
    mean_one s i (Variable name) p (Braced (span_bytes name s)) ((inside, named), tt)
    (λ look. ap (λ position. given_or (look (span_bytes name s)) (Lacks position (span_bytes name s) ∷ []))
    starts)
    (ap (λ position. required position (span_bytes name s) ∷ []) starts) (λ look. refl)

-- a default's part that jumps over no parts means the name with a question mark
pub mean_optional : (s : List ℕ) (i : ℕ) (name : Span) (p : ℕ) → IsSpan s name → IsName (span_bytes name s)
    → name.start ≡ p + 2 → kind_before (drop name.end s) ≡ OrNothing
    → PartsMean s i (Default name (i + 1) ∷ []) p (Then (Optional (span_bytes name s)) Empty)
mean_optional s i name p inside named starts kind =
    mean_one s i (Default name (i + 1)) p (Optional (span_bytes name s))
    ((inside, named), (omega arith, omega arith))
    (λ look. refl) (rw (starts, kind) refl) (λ look. refl)

-- the steps of a default's part and of the parts after it: the found value, or else the steps of these parts
steps_in-default : (found : Option (List ℕ)) (parts : List Part) (i : ℕ) (s : List ℕ) (look : LookUp)
    → given_or found [] ++ steps_in (visited_parts parts i (if_found found (i + length parts)) s look) s look
    ≡ given_or found (steps_in (visited_parts parts i 0 s look) s look)
steps_in-default (Some x) parts i s look =
    ap (λ visited. Given x ∷ steps_in visited s look)
    (visited_parts-jumped i (i + length parts) s parts look (omega arith))
steps_in-default None parts i s look = refl

-- the parts of a default are visited if no value was found
default_count : (found : Option (List ℕ)) (parts : List Part) (i : ℕ) (s : List ℕ) (look : LookUp)
    → length (visited_parts parts i (if_found found (i + length parts)) s look)
    ≡ if_missing found (length (visited_parts parts i 0 s look))
default_count (Some x) parts i s look =
    ap length (visited_parts-jumped i (i + length parts) s parts look (omega arith))
default_count None parts i s look = refl

-- a default's part that jumps over the parts after it means the name with the tree of these parts
pub mean_default : (s : List ℕ) (i : ℕ) (name : Span) (parts : List Part) (p : ℕ) (t : Tree) → IsSpan s name
    → IsName (span_bytes name s) → name.start ≡ p + 2 → kind_before (drop name.end s) ≡ OrDefault
    → PartsMean s (i + 1) parts (p + 3 + length (span_bytes name s)) t
    → PartsMean s i (Default name (i + 1 + length parts) ∷ parts) p
    (Then (tree.Default (span_bytes name s) t) Empty)
mean_default s i name parts p t inside named starts kind mean = record {
  fit = (
    ((inside, named), (omega arith, omega arith)),
    fit_widen (i + 1) (i + 1 + length parts) (i + suc (length parts)) s parts (omega arith) mean.fit,
  );
  same_steps = λ look.
      steps_in-first (Default name (i + 1 + length parts)) parts i 0 s look (omega arith)
      ∙ steps_in-default (look (span_bytes name s)) parts (i + 1) s look
      ∙ ap (given_or (look (span_bytes name s))) (mean.same_steps look)
      ∙ sym (append-nil (given_or (look (span_bytes name s))
      (steps_of (p + 3 + length (span_bytes name s)) t look)));
  same_variables =
      ap (λ position.
      record { position = position; name = span_bytes name s; kind = kind_before (drop name.end s) }
      ∷ variables_in parts s) starts
      ∙ ap (λ k. record { position = p + 2; name = span_bytes name s; kind = k } ∷ variables_in parts s) kind
      ∙ ap (λ rest. record { position = p + 2; name = span_bytes name s; kind = OrDefault } ∷ rest)
      mean.same_variables
      ∙ sym (append-nil (item_variables p (tree.Default (span_bytes name s) t)));
  same_count = λ look.
      omega (
        arith,
        ap length (visited_parts-from (Default name (i + 1 + length parts)) parts i 0 s look (omega arith)),
        default_count (look (span_bytes name s)) parts (i + 1) s look,
        ap (if_missing (look (span_bytes name s))) (mean.same_count look),
      );
}

module _ {s : List ℕ} {i : ℕ} {parts : List Part} {p : ℕ} {t : Tree} (mean : PartsMean s i parts p t)
    (look : LookUp) where
  -- the value of parts is that of the tree that they mean
  pub same_value : steps_value (steps_in (visited_parts parts i 0 s look) s look) ≡ value p t look
  same_value = ap steps_value (mean.same_steps look) ∙ sym (value-steps look t p)
