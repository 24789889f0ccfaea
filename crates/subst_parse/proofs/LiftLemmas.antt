-- The fault of the whole source, from the state of the parser.
use Rattle.std.proofs.Common.{◌≡◌, ℕ, suc, ◌+◌, ◌-◌, ◌<◌, false, List, [], ◌∷◌, ◌++◌, length, drop, refl, sym, ap, ◌∙◌, subst, append_assoc, arith}
use Rattle.std.proofs.lemmas.List.{append_cancel_right}
use Rattle.subst_language.specs.Language.Bytes.{colon, closing_brace, dollar, opening_brace}
use Rattle.subst_language.specs.Language.Name.{IsName}
use Rattle.subst_language.specs.Language.Tree.{Tree, text}
use Rattle.subst_language.specs.Language.Balanced.{IsBalanced, Closes}
use Rattle.subst_language.specs.Parts.Span.{span_bytes}
use Rattle.subst_error.specs.Fault.{Fault, MissingClosingBrace}
use Rattle.subst_language.specs.Language.BadItem.{IsBad, HasFault}
use Rattle.subst_language.specs.Language.BadItem.IsBad.{inside, unclosed}
use Rattle.subst_language.specs.Language.BadItem.HasFault.{fault_after}
use Rattle.subst_language.specs.Lemmas.Closing.{ClosesAll}
use Rattle.subst_parse.specs.Placeholder.{IsInBraces}
use Rattle.subst_language.specs.Lemmas.Closing.{ChangesDepth}
use Rattle.subst_parse.specs.Parsing.{IsTreeAt, IsParsedWithTail, StackHoldsFlushed}
use Rattle.subst_language.specs.declared.part.Part.{Part}
use Rattle.subst_parse.specs.declared.parse.OpenDefault.{OpenDefault}
use Rattle.subst_language.specs.Language.Join.{join}
use Rattle.subst_language.proofs.Language.PlainLemmas.{plains}
use Rattle.subst_parse.proofs.ParsedLemmas.{current_tree_at}
use Rattle.subst_parse.proofs.DepthLemmas.{depth_balanced, depth_opening, depth_byte, depth_append}
use Rattle.subst_language.proofs.Language.ClosingLemmas.{gather, closes_one, completes_balanced}
use Rattle.subst_language.proofs.Language.ItemLemmas.{default_balanced, default_text}
use Rattle.subst_language.proofs.Language.NameLemmas.{name_balanced}
use Rattle.subst_parse.proofs.StackHoldsLemmas.{holds_some}

-- a bad item after a tree is the fault of the text from the tree's start on
fault_at : {s : List ℕ} {from at : ℕ} {t : Tree} (r : List ℕ) (f : Fault) → IsTreeAt s from at t
    → IsBad at r f
    → HasFault from (text t ++ r) f
fault_at {t = t} r f at_tree bad =
    fault_after t at_tree.well_formed (subst (λ p. IsBad p r f) at_tree.ends bad)

-- a fault inside a closed default is one of its placeholder, before any text
inside_closed : (p : ℕ) (n w v : List ℕ) (f : Fault) → IsName n → IsBalanced w
    → HasFault (p + 3 + length n) w f
    → IsBad p ((dollar ∷ opening_brace ∷ n ++ (colon ∷ w ++ closing_brace ∷ [])) ++ v) f
inside_closed p n w v f valid balanced fault =
    subst (λ r. IsBad p r f) (sym (default_text n w v)) (inside n w v valid balanced fault)

-- the text after a colon, cut at a closing brace
cut_again : {whole after z : List ℕ} (read y v q : List ℕ) → whole ≡ read ++ after → after ≡ y ++ z
    → z ≡ v ++ closing_brace ∷ q
    → whole ≡ (read ++ (y ++ v)) ++ closing_brace ∷ q
cut_again read y v q is_whole is_after is_cut =
    is_whole ∙ rw (is_after, is_cut, append_assoc, append_assoc) refl

-- A bad item at the byte offset `at` is the fault of the source under two conditions: all open braces close
-- after it, and it is as bad when cut before any closing brace.
pub lift : (s : List ℕ) (defaults : List OpenDefault) (depth : ℕ) (parts : List Part) (literal_start at : ℕ)
    (y z : List ℕ) (f : Fault)
    → StackHoldsFlushed s defaults depth parts literal_start at → drop at s ≡ y ++ z → IsBalanced y
    → IsBad at (y ++ z) f
    → ((v q : List ℕ) → z ≡ v ++ closing_brace ∷ q → IsBad at (y ++ v) f) → ClosesAll depth z → HasFault 0 s f
lift s [] depth parts literal_start at y z f within reads balanced bad cut closes =
    let at_tree = current_tree_at within.1 in
    subst (λ x. HasFault 0 x f) (sym (at_tree.spelled ∙ rw reads refl)) (fault_at (y ++ z) f at_tree bad)
lift s (default ∷ defaults) depth parts literal_start at y z f within reads balanced bad cut closes =
    let at_tree = current_tree_at within.current in
    let n = span_bytes default.name s in
    let read = text (join within.current.level.tree (plains within.current.run.run)) in
    let count : depth ≡ suc (within.bare + default.depth) = omega (arith, within.braces) in
    let (v, q, completes, is, rest) =
    gather within.bare default.depth z (subst (λ d. ClosesAll d z) count closes) in
    let w = read ++ (y ++ v) in
    let same : within.read ≡ read =
    append_cancel_right within.read read (drop at s) (sym within.spelled ∙ at_tree.spelled) in
    let closed : IsBalanced w =
    subst (λ x. IsBalanced (x ++ (y ++ v))) same
    (within.change.completed (y ++ v) (completes_balanced within.bare v balanced completes)) in
    let start : default.name.end + 1 ≡ within.position + 3 + length n =
    omega (arith, within.head.starts, within.head.named.ends) in
    let fault : HasFault (within.position + 3 + length n) w f =
    subst (λ p. HasFault p w f) start (fault_at (y ++ v) f at_tree (cut v q is)) in
    let again : drop (default.name.end + 1) s ≡ w ++ closing_brace ∷ q =
    cut_again read y v q at_tree.spelled reads is in
    let around : drop within.position s
    ≡ (dollar ∷ opening_brace ∷ n ++ (colon ∷ w ++ closing_brace ∷ [])) ++ q =
    within.head.spelled ∙ rw again (sym (default_text n w q)) in
    lift s defaults default.depth within.before within.position within.position
    (dollar ∷ opening_brace ∷ n ++ (colon ∷ w ++ closing_brace ∷ [])) q f within.around
    around (default_balanced n w within.head.named.valid closed)
    (inside_closed within.position n w q f within.head.named.valid closed fault)
    (λ u r cuts. inside_closed within.position n w u f within.head.named.valid closed fault) rest

-- the front of a placeholder with a default opens one brace
depth_front : (d : ℕ) (n : List ℕ) → IsName n
    → ChangesDepth (dollar ∷ opening_brace ∷ n ++ colon ∷ []) d (suc d)
depth_front d n valid =
    depth_append d d (suc d) (dollar ∷ []) (opening_brace ∷ n ++ colon ∷ [])
    (depth_byte d dollar (λ is. omega (arith, is)) (λ is. omega (arith, is)) (λ is. omega (arith, is)))
    (depth_append d (suc d) (suc d) (opening_brace ∷ []) (n ++ colon ∷ []) (depth_opening d)
    (depth_append (suc d) (suc d) (suc d) n (colon ∷ []) (depth_balanced (suc d) (name_balanced n valid))
    (depth_byte (suc d) colon (λ is. omega (arith, is)) (λ is. omega (arith, is)) (λ is. omega (arith, is)))))

-- the outermost default: the parts before its own, and if it closes, all open braces close after `at`
record IsOutermost (s : List ℕ) (outermost : OpenDefault) (depth : ℕ) (at : ℕ) : Type 0 where
  before : List Part
  position : ℕ
  head : IsInBraces s position outermost.name colon
  current : IsParsedWithTail false s 0 position position 0 before
  closes : Closes (drop (outermost.name.end + 1) s) → ClosesAll depth (drop at s)

-- the position of the outermost default
find_outermost : (s : List ℕ) (inner : List OpenDefault) (outermost : OpenDefault) (depth : ℕ)
    (parts : List Part) (literal_start at : ℕ)
    → StackHoldsFlushed s (inner ++ outermost ∷ []) depth parts literal_start at
    → IsOutermost s outermost depth at
find_outermost s [] outermost depth parts literal_start at within = record {
  before = within.before;
  position = within.position;
  head = within.head;
  current = within.around.1;
  closes = λ closes.
      within.change.closed 0 1 depth (drop at s) (omega arith) (omega (arith, within.braces, within.around.0))
      (subst (ClosesAll 1) within.spelled ((closes_one (drop (outermost.name.end + 1) s)).1 closes));
}
find_outermost s (default ∷ inner) outermost depth parts literal_start at within =
    let n = span_bytes default.name s in
    let valid = within.head.named.valid in
    let found =
    find_outermost s inner outermost default.depth within.before within.position within.position
    within.around in
    let spelled : drop within.position s
    ≡ (dollar ∷ opening_brace ∷ n ++ colon ∷ []) ++ (within.read ++ drop at s) =
    within.head.spelled ∙ rw (within.spelled, append_assoc) refl in
    let some =
    holds_some s inner outermost default.depth within.before within.position within.position within.around in
    record {
      before = found.before;
      position = found.position;
      head = found.head;
      current = found.current;
      closes = λ closes.
          let after =
          (depth_front 0 n valid).closed (default.depth - 1) default.depth (suc default.depth)
          (within.read ++ drop at s)
          (omega arith) (omega arith) (subst (ClosesAll default.depth) spelled (found.closes closes)) in
          within.change.closed default.depth (suc default.depth) depth (drop at s) (omega arith)
          (omega (arith, within.braces)) after;
    }

-- the name of the outermost default is after a dollar and a brace
pub outermost_starts : (s : List ℕ) (inner : List OpenDefault) (outermost : OpenDefault) (depth : ℕ)
    (parts : List Part) (literal_start at : ℕ)
    → StackHoldsFlushed s (inner ++ outermost ∷ []) depth parts literal_start at
    → 0 < outermost.name.start
outermost_starts s inner outermost depth parts literal_start at within =
    omega (arith, (find_outermost s inner outermost depth parts literal_start at within).head.starts)

-- If not all open braces close, the fault of the source is the outermost default.
pub unclosed_outermost : (s : List ℕ) (inner : List OpenDefault) (outermost : OpenDefault) (depth : ℕ)
    (parts : List Part) (literal_start at : ℕ)
    → StackHoldsFlushed s (inner ++ outermost ∷ []) depth parts literal_start at
    → ¬ (ClosesAll depth (drop at s))
    → HasFault 0 s (MissingClosingBrace (outermost.name.start - 1))
unclosed_outermost s inner outermost depth parts literal_start at within unclosed_there =
    let found = find_outermost s inner outermost depth parts literal_start at within in
    let name = outermost.name in
    let at_tree = current_tree_at found.current in
    let n = span_bytes name s in
    let rest = dollar ∷ opening_brace ∷ n ++ colon ∷ drop (name.end + 1) s in
    let bad : IsBad found.position rest (MissingClosingBrace (found.position + 1)) =
    unclosed n (drop (name.end + 1) s) found.head.named.valid
    (λ closes. unclosed_there (found.closes closes)) in
    let fault = fault_at rest (MissingClosingBrace (found.position + 1)) at_tree bad in
    let brace : found.position + 1 ≡ name.start - 1 = omega (arith, found.head.starts) in
    let tree = join found.current.level.tree (plains found.current.run.run) in
    let spelled : s ≡ text tree ++ rest = at_tree.spelled ∙ ap (λ x. text tree ++ x) found.head.spelled in
    subst (λ q. HasFault 0 s (MissingClosingBrace q)) brace
    (subst (λ x. HasFault 0 x (MissingClosingBrace (found.position + 1))) (sym spelled) fault)
