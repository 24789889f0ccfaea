-- Faults that only the end of a source reveals: none of them is in a balanced text.
use Rattle.std.proofs.Common.{rules, ◌≡◌, ◌≢◌, ℕ, zero, suc, ◌+◌, Some, None, List, [], ◌∷◌, ◌++◌, length, refl, sym, ap, subst, append_assoc, append-nil, length-append, arith}
use Rattle.subst_error.specs.Fault.{Fault, InvalidEscapeSequence, MissingVariableName, UnexpectedCharacter, MissingClosingBrace, NoSuchVariable}
use Rattle.subst_language.specs.Language.Bytes.{dollar, colon, question_mark, backslash, opening_brace, closing_brace}
use Rattle.subst_language.specs.Language.Balanced.{IsBalanced}
use Rattle.subst_language.specs.Language.Balanced.IsBalanced.{empty, byte, escape as escaping, braces}
use Rattle.subst_language.specs.Language.Tree.{Item, Plain, Escaped, Short, Braced, Optional, Default, Tree, Empty, Then, item_text, text}
use Rattle.subst_language.specs.Language.WellFormed.{IsItem, IsWellFormed}
use Rattle.subst_language.specs.Language.BadItem.{IsBad, HasFault}
use Rattle.subst_language.specs.Language.BadItem.IsBad.{escape_at_end, name_at_end, optional_at_end, unclosed, inside}
use Rattle.subst_language.specs.Language.BadItem.HasFault.{fault_after}
use Rattle.subst_language.specs.Language.Laws.{OpensAt}
use Rattle.subst_language.specs.Lemmas.Closing.{Completes}
use Rattle.subst_language.proofs.Language.ListLemmas.{first_same, rest_same, no_element}
use Rattle.subst_language.proofs.Language.NameLemmas.{name_balanced}
use Rattle.subst_language.proofs.Language.ItemLemmas.{escape_balanced, short_balanced, braced_balanced, optional_balanced, default_balanced}
use Rattle.subst_language.proofs.Language.ClosesOrNotLemmas.{BraceKind, escapes, opens, closes, counts_not, brace_kind}
use Rattle.subst_language.proofs.Language.ClosingLemmas.{after_byte, after_escape, after_opening, after_closing, closes_lone_backslash}

-- a balanced text without its first byte, which is no backslash and no brace, is balanced
balanced_after_byte : (b : ℕ) (v : List ℕ) {x : List ℕ} → b ≢ backslash → b ≢ opening_brace → IsBalanced x
    → x ≡ b ∷ v → IsBalanced v
balanced_after_byte b v no_slash no_open empty e = cc
balanced_after_byte b v no_slash no_open (byte _ _ _ inner) e = subst IsBalanced (rest_same e) inner
balanced_after_byte b v no_slash no_open (escaping inner) e = absurd (no_slash (sym (first_same e)))
balanced_after_byte b v no_slash no_open (braces inner more) e = absurd (no_open (sym (first_same e)))

-- a balanced text without the escape that it begins with is balanced
balanced_after_escape : (b : ℕ) (v : List ℕ) {x : List ℕ} → IsBalanced x → x ≡ backslash ∷ b ∷ v
    → IsBalanced v
balanced_after_escape b v empty e = cc
balanced_after_escape b v (byte no_slash _ _ inner) e = absurd (no_slash (first_same e))
balanced_after_escape b v (escaping inner) e = subst IsBalanced (rest_same (rest_same e)) inner
balanced_after_escape b v (braces inner more) e = absurd (omega (arith, first_same e))

-- a balanced text that begins with an opening brace closes it
balanced_after_opening : (v : List ℕ) {x : List ℕ} → IsBalanced x → x ≡ opening_brace ∷ v → Completes 1 v
balanced_after_opening v empty e = absurd cc
balanced_after_opening v (byte _ no_open _ inner) e = absurd (no_open (first_same e))
balanced_after_opening v (escaping inner) e = absurd (omega (arith, first_same e))
balanced_after_opening v (braces {x = x} {y = y} inner more) e = (x, y, inner, sym (rest_same e), more)

-- no balanced text begins with a closing brace
closing_not_balanced : (v : List ℕ) {x : List ℕ} → IsBalanced x → ¬ (x ≡ closing_brace ∷ v)
closing_not_balanced v empty e = cc
closing_not_balanced v (byte _ _ no_close inner) e = no_close (first_same e)
closing_not_balanced v (escaping inner) e = omega (arith, first_same e)
closing_not_balanced v (braces inner more) e = omega (arith, first_same e)

-- no balanced text is a backslash alone
backslash_not_balanced : {x : List ℕ} → IsBalanced x → ¬ (x ≡ backslash ∷ [])
backslash_not_balanced empty e = cc
backslash_not_balanced (byte no_slash _ _ inner) e = no_slash (first_same e)
backslash_not_balanced (escaping inner) e = cc
backslash_not_balanced (braces inner more) e = omega (arith, first_same e)

-- a text that completes braces still does without its first byte, if that is no backslash and no brace
drop_byte : (d : ℕ) (v : List ℕ) (b : ℕ) → b ≢ backslash → b ≢ opening_brace → b ≢ closing_brace
    → Completes d (b ∷ v) → Completes d v
drop_byte zero v b no_slash no_open no_close done = balanced_after_byte b v no_slash no_open done refl
drop_byte (suc d) v b no_slash no_open no_close (x, y, inner, e, rest) =
    after_byte (Completes d) v b no_slash no_open no_close inner y e rest

-- a text that completes braces still does without the escape that it begins with
drop_escape : (d : ℕ) (v : List ℕ) (b : ℕ) → Completes d (backslash ∷ b ∷ v) → Completes d v
drop_escape zero v b done = balanced_after_escape b v done refl
drop_escape (suc d) v b (x, y, inner, e, rest) = after_escape (Completes d) v b inner y e rest

-- without the opening brace that it begins with a text completes one brace more
drop_opening : (d : ℕ) (v : List ℕ) → Completes d (opening_brace ∷ v) → Completes (suc d) v
drop_opening zero v done = balanced_after_opening v done refl
drop_opening (suc d) v (x, y, inner, e, rest) = after_opening (Completes d) v inner y e rest

-- without the closing brace that it begins with a text completes one brace less
drop_closing : (d : ℕ) (v : List ℕ) → Completes (suc d) (closing_brace ∷ v) → Completes d v
drop_closing d v (x, y, inner, e, rest) = after_closing (Completes d) v inner y e rest

-- a text completes as many braces without the balanced text that it begins with
drop_balanced : (d : ℕ) (v : List ℕ) {x : List ℕ} → IsBalanced x → Completes d (x ++ v) → Completes d v
drop_balanced d v empty done = done
drop_balanced d v (byte {b = b} {x = x} no_slash no_open no_close inner) done =
    drop_balanced d v inner (drop_byte d (x ++ v) b no_slash no_open no_close done)
drop_balanced d v (escaping {b = b} {x = x} inner) done =
    drop_balanced d v inner (drop_escape d (x ++ v) b done)
drop_balanced d v (braces {x = x} {y = y} inner more) done =
    let rest = closing_brace ∷ y ++ v in
    let opened = drop_opening d ((x ++ closing_brace ∷ y) ++ v) done in
    let same = append_assoc x (closing_brace ∷ y) v in
    let closed = drop_balanced (suc d) rest inner (subst (Completes (suc d)) same opened) in
    drop_balanced d v more (drop_closing d (y ++ v) closed)

-- the text completes some number of braces
abbrev CompletesSome : List ℕ → Type 0
CompletesSome v = (d : ℕ) × Completes d v

-- the rest after a plain byte completes some braces, if the whole does
after_plain : {b : ℕ} → BraceKind b → (v : List ℕ) → b ≢ backslash → (d : ℕ) → Completes d (b ∷ v)
    → CompletesSome v
after_plain escapes v no_slash d done = absurd (no_slash refl)
after_plain opens v no_slash d done = (suc d, drop_opening d v done)
after_plain closes v no_slash zero done = absurd (closing_not_balanced v done refl)
after_plain closes v no_slash (suc d) done = (d, drop_closing d v done)
after_plain (counts_not {b = b} n o c) v no_slash d done = (d, drop_byte d v b n o c done)

-- the rest after an item completes some braces, if the whole does
after_item : (item : Item) (next : Tree) (d : ℕ) (v : List ℕ) → IsItem item next
    → Completes d (item_text item ++ v)
    → CompletesSome v
after_item (Plain b) next d v fits done = after_plain (brace_kind b) v fits.1 d done
after_item (Escaped b) next d v fits done = (d, drop_balanced d v (escape_balanced b) done)
after_item (Short n) next d v fits done = (d, drop_balanced d v (short_balanced n fits.0) done)
after_item (Braced n) next d v fits done = (d, drop_balanced d v (braced_balanced n fits) done)
after_item (Optional n) next d v fits done = (d, drop_balanced d v (optional_balanced n fits) done)
after_item (Default n t) next d v fits done =
    (d, drop_balanced d v (default_balanced n (text t) fits.0 fits.2) done)

-- the rest after a tree completes some braces, if the whole does
after_tree : (t : Tree) (d : ℕ) (v : List ℕ) → IsWellFormed t → Completes d (text t ++ v) → CompletesSome v
after_tree Empty d v formed done = (d, done)
after_tree (Then item rest) d v formed done =
    let same = append_assoc (item_text item) (text rest) v in
    let (e, behind) = after_item item rest d (text rest ++ v) formed.0 (subst (Completes d) same done) in
    after_tree rest e v formed.1 behind

-- the fault is one that only the end of a source reveals
abbrev pub IsLate : Fault → Type 0
IsLate (InvalidEscapeSequence position None) = Unit {0}
IsLate (MissingClosingBrace position) = Unit {0}
IsLate _ = ⊥

-- nothing completes a brace
nothing_completes : (d : ℕ) → ¬ (Completes (suc d) [])
nothing_completes d = λ (x, y, inner, e, rest). no_element closing_brace x y e

-- a backslash alone completes no brace, and isn't balanced
backslash_completes_none : (d : ℕ) → ¬ (Completes d (backslash ∷ []))
backslash_completes_none zero done = backslash_not_balanced done refl
backslash_completes_none (suc d) (x, y, inner, e, rest) = closes_lone_backslash 0 (x, y, inner, e, tt)

-- after `${` there is one more to complete
after_dollar_brace : (d : ℕ) (v : List ℕ) → Completes d (dollar ∷ opening_brace ∷ v) → Completes (suc d) v
after_dollar_brace d v done =
    drop_opening d v (drop_byte d (opening_brace ∷ v) dollar (omega arith) (omega arith) (omega arith) done)

mutual
  -- a bad item with a late fault completes nothing
  late_completes_none : {p : ℕ} {r : List ℕ} {f : Fault} → IsBad p r f → IsLate f → (d : ℕ)
      → ¬ (Completes d r)
  late_completes_none escape_at_end late d done = backslash_completes_none d done
  late_completes_none (name_at_end n named) late d done =
      let inner = subst (Completes (suc d)) (sym (append-nil n)) (after_dollar_brace d n done) in
      nothing_completes d (drop_balanced (suc d) [] (name_balanced n named) inner)
  late_completes_none (optional_at_end n named) late d done =
      let mark = question_mark ∷ [] in
      let inner = drop_balanced (suc d) mark (name_balanced n named)
      (after_dollar_brace d (n ++ mark) done) in
      nothing_completes d (drop_byte (suc d) [] question_mark (omega arith) (omega arith) (omega arith) inner)
  late_completes_none (unclosed n w named none) late d done =
      let rest = colon ∷ w in
      let inner = drop_balanced (suc d) rest (name_balanced n named)
      (after_dollar_brace d (n ++ rest) done) in
      let (x, y, balanced, e, more) = drop_byte (suc d) w colon (omega arith) (omega arith) (omega arith)
      inner in
      none (x, y, balanced, e)
  late_completes_none (inside n w v named balanced fault) late d done =
      late_not_balanced fault late 0 balanced
  late_completes_none _ late d done = elim late [ ]

  -- a text with a late fault completes nothing, so it isn't balanced
  pub late_not_balanced : {p : ℕ} {s : List ℕ} {f : Fault} → HasFault p s f → IsLate f → (d : ℕ)
      → ¬ (Completes d s)
  late_not_balanced (fault_after {r = r} t formed bad) late d done =
      let (e, rest) = after_tree t d r formed done in
      late_completes_none bad late e rest

-- a bad item, by its fault: with a missing closing brace it begins with `${`, whose brace is at the position;
-- with an escape without a character it is a single backslash
abbrev pub BadBy : ℕ → List ℕ → Fault → Type 0
BadBy p r (InvalidEscapeSequence position None) = (r ≡ backslash ∷ []) × (position ≡ p)
BadBy p r (MissingClosingBrace position) =
    (more : List ℕ) × (r ≡ dollar ∷ opening_brace ∷ more) × (position ≡ p + 1)
BadBy p r _ = Unit {0}

-- other faults need no proof
bad_by_other : (p : ℕ) (r : List ℕ) (f : Fault) → ¬ (IsLate f) → BadBy p r f
bad_by_other p r (InvalidEscapeSequence position None) other = absurd (other tt)
bad_by_other p r (InvalidEscapeSequence position (Some c)) other = tt
bad_by_other p r (MissingVariableName position len) other = tt
bad_by_other p r (UnexpectedCharacter position c expected) other = tt
bad_by_other p r (MissingClosingBrace position) other = absurd (other tt)
bad_by_other p r (NoSuchVariable position name) other = tt

-- each bad item is one by its fault
pub bad_by : {p : ℕ} {r : List ℕ} {f : Fault} → IsBad p r f → BadBy p r f
bad_by escape_at_end = (refl, refl)
bad_by (name_at_end n named) = (n, refl, refl)
bad_by (optional_at_end n named) = (n ++ question_mark ∷ [], refl, refl)
bad_by (unclosed n w named none) = (n ++ colon ∷ w, refl, refl)
bad_by {p = p} {r = r} {f = f} (inside n w v named balanced fault) =
    bad_by_other p r f (λ late. late_not_balanced fault late 0 balanced)
bad_by _ = tt

-- a source, by its fault
abbrev SourceBy : ℕ → List ℕ → Fault → Type 0
SourceBy p s (InvalidEscapeSequence position None) = position + 1 ≡ p + length s
SourceBy p s (MissingClosingBrace position) = OpensAt p s position
SourceBy p s _ = Unit {0}

-- a bad item after a sentence
source_by_bad : (p : ℕ) (t : Tree) (r : List ℕ) (f : Fault) → IsWellFormed t → BadBy (p + length (text t)) r f
    → SourceBy p (text t ++ r) f
source_by_bad p t r (InvalidEscapeSequence position None) formed (e, at) =
    omega (arith, at, length-append (text t) r, ap length e)
source_by_bad p t r (InvalidEscapeSequence position (Some c)) formed h = tt
source_by_bad p t r (MissingVariableName position len) formed h = tt
source_by_bad p t r (UnexpectedCharacter position c expected) formed h = tt
source_by_bad p t r (MissingClosingBrace position) formed (more, e, at) = search (rules, text)
source_by_bad p t r (NoSuchVariable position name) formed h = tt

-- each source with a fault is one by its fault
source_by : {p : ℕ} {s : List ℕ} {f : Fault} → HasFault p s f → SourceBy p s f
source_by {p = p} {f = f} (fault_after {r = r} t formed bad) = source_by_bad p t r f formed (bad_by bad)

-- a source that lacks a closing brace
pub brace_opens : (p position : ℕ) (s : List ℕ) → HasFault p s (MissingClosingBrace position)
    → OpensAt p s position
brace_opens p position s fault = source_by fault

-- a source with an escape that has no character
pub escape_ends : (p position : ℕ) (s : List ℕ) → HasFault p s (InvalidEscapeSequence position None)
    → position + 1 ≡ p + length s
escape_ends p position s fault = source_by fault
