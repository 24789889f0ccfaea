-- Faults that aren't settled: each changes or goes away if some text is appended.
use Rattle.std.proofs.Common.{◌≡◌, ℕ, zero, suc, ◌+◌, ◌<◌, Some, None, List, [], ◌∷◌, ◌++◌, length, drop, refl, sym, ap, ◌∙◌, subst, append_assoc, append-nil, length-append, arith}
use Rattle.std.proofs.Math.Seq.{drop-append_seam}
use Rattle.std.proofs.lemmas.Str.{IsUtf8-append, IsUtf8-nil}
use Rattle.std.specs.Str.{IsUtf8}
use Rattle.subst_error.specs.Fault.{Fault, InvalidEscapeSequence, MissingVariableName, UnexpectedCharacter, MissingClosingBrace, NoSuchVariable}
use Rattle.subst_error.specs.Range.{range_of}
use Rattle.subst_language.specs.Language.Bytes.{dollar, colon, question_mark, opening_brace, closing_brace}
use Rattle.subst_language.specs.Language.Name.{underscore, IsNameByte, IsName, BeginsWithNo}
use Rattle.subst_language.specs.Language.Balanced.{IsBalanced, Closes}
use Rattle.subst_language.specs.Language.Tree.{Item, Escaped, Short, Braced, Optional, Tree, Empty, Then, item_text, text}
use Rattle.subst_language.specs.Language.WellFormed.{IsItem, IsWellFormed}
use Rattle.subst_language.specs.Language.Join.{join}
use Rattle.subst_language.specs.Language.BadItem.{IsBad, HasFault}
use Rattle.subst_language.specs.Language.BadItem.IsBad.{escape_at_end, escape, dollar_at_end, dollar_alone, brace_at_end, brace_alone, name_at_end, name_alone, optional_at_end, optional_alone, unclosed, inside}
use Rattle.subst_language.specs.Language.BadItem.HasFault.{fault_after}
use Rattle.subst_language.specs.Language.Laws.{IsSettled}
use Rattle.subst_language.specs.Lemmas.Closing.{ClosesAll}
use Rattle.subst_language.proofs.Language.BeginningLemmas.{beginning, beginning-bad, beginning-closed, BeginningHasFault}
use Rattle.subst_language.proofs.Language.ClosesOrNotLemmas.{BraceKind, escapes, opens, closes, counts_not, brace_kind}
use Rattle.subst_language.proofs.Language.ClosingLemmas.{closes_byte, closes_escape, closes_opening, closes_closing, closes_one}
use Rattle.subst_language.proofs.Language.FaultLemmas.{fault_parts, no_tree_with_fault}
use Rattle.subst_language.proofs.Language.LateFaultLemmas.{IsLate, late_not_balanced, bad_by}
use Rattle.subst_language.proofs.Language.ListLemmas.{by_length}
use Rattle.subst_language.proofs.Language.RangeWithinLemmas.{fault_within}
use Rattle.subst_language.proofs.Language.TreeLemmas.{followed_by_no_name, text-join, well_formed_join}
use Rattle.subst_language.proofs.Language.Utf8Lemmas.{ascii_alone}

mutual
  -- no bad item's fault is a missing variable
  bad_is_known : {p : ℕ} {r : List ℕ} {f : Fault} (position : ℕ) (name : List ℕ) → IsBad p r f
      → ¬ (f ≡ NoSuchVariable position name)
  bad_is_known position name (inside n w v named balanced fault) e = fault_is_known position name fault e
  bad_is_known position name _ e = cc

  -- no source's fault is a missing variable
  pub fault_is_known : {p : ℕ} {s : List ℕ} {f : Fault} (position : ℕ) (name : List ℕ) → HasFault p s f
      → ¬ (f ≡ NoSuchVariable position name)
  fault_is_known position name (fault_after t formed bad) e = bad_is_known position name bad e

-- if some text is appended, w closes this many open braces
abbrev IsClosable : ℕ → List ℕ → Type 0
IsClosable d w = (more : List ℕ) × IsUtf8 more × ClosesAll d (w ++ more)

-- closing braces close braces
closable_alone : (d : ℕ) → IsClosable d []
closable_alone zero = ([], IsUtf8-nil, tt)
closable_alone (suc d) =
    let (more, is, closed) = closable_alone d in (
      closing_brace ∷ more,
      IsUtf8-append (closing_brace ∷ []) more (ascii_alone closing_brace (omega arith)) is,
      (closes_closing d more).1 closed,
    )

-- one step of the next lemma, by the kind of the first byte
closable_step : {b : ℕ} → BraceKind b → (d : ℕ) (y : List ℕ)
    → ((z : List ℕ) → length z < length (b ∷ y) → (e : ℕ) → IsClosable e z) → IsClosable (suc d) (b ∷ y)
closable_step escapes d [] shorter =
    let (more, is, closed) = closable_alone (suc d) in (
      closing_brace ∷ more,
      IsUtf8-append (closing_brace ∷ []) more (ascii_alone closing_brace (omega arith)) is,
      (closes_escape d more closing_brace).1 closed,
    )
closable_step escapes d (b ∷ y) shorter =
    let (more, is, closed) = shorter y (omega arith) (suc d) in
    (more, is, (closes_escape d (y ++ more) b).1 closed)
closable_step opens d y shorter =
    let (more, is, closed) = shorter y (omega arith) (suc (suc d)) in
    (more, is, (closes_opening d (y ++ more)).1 closed)
closable_step closes d y shorter =
    let (more, is, closed) = shorter y (omega arith) d in
    (more, is, (closes_closing d (y ++ more)).1 closed)
closable_step (counts_not {b = b} n o c) d y shorter =
    let (more, is, closed) = shorter y (omega arith) (suc d) in
    (more, is, (closes_byte d (y ++ more) b n o c).1 closed)

-- each text closes the open braces if some text is appended
closable : (w : List ℕ) (d : ℕ) → IsClosable d w
closable = by_length (λ w. (d : ℕ) → IsClosable d w) step
  where
    step : (w : List ℕ) → ((z : List ℕ) → length z < length w → (e : ℕ) → IsClosable e z) → (d : ℕ)
        → IsClosable d w
    step [] shorter d = closable_alone d
    step (b ∷ y) shorter zero = ([], IsUtf8-nil, tt)
    step (b ∷ y) shorter (suc d) = closable_step (brace_kind b) d y shorter

-- some text, appended to s, removes the fault f at position p
abbrev IsMended : ℕ → List ℕ → Fault → Type 0
IsMended p s f = (more : List ℕ) × IsUtf8 more × (¬ (HasFault p (s ++ more) f))

-- a text that completes an item after a sentence removes each fault
by_item : {p : ℕ} {f : Fault} (t : Tree) (item : Item) (r more : List ℕ) → IsWellFormed t
    → IsItem item Empty → BeginsWithNo IsNameByte (item_text item)
    → r ++ more ≡ item_text item → IsUtf8 more → IsMended p (text t ++ r) f
by_item {p = p} {f = f} t item r more formed fits no_name e is =
    let u = Then item Empty in
    let alone = append-nil (item_text item) in
    let follows = followed_by_no_name t (text u) (subst (BeginsWithNo IsNameByte) (sym alone) no_name) in
    let whole : (text t ++ r) ++ more ≡ text (join t u) =
    append_assoc (text t) r more ∙ ap (λ w. text t ++ w) (e ∙ sym alone) ∙ sym (text-join t u) in (
      more,
      is,
      no_tree_with_fault _ (join t u) p f (well_formed_join t u formed (fits, tt) follows) whole,
    )

-- a closed default has no late fault
closed_not_bad : {p : ℕ} {r : List ℕ} {f : Fault} (n x y : List ℕ) → IsName n → IsBalanced x
    → r ≡ dollar ∷ opening_brace ∷ n ++ (colon ∷ x ++ closing_brace ∷ y) → IsLate f → ¬ (IsBad p r f)
closed_not_bad {p = p} {r = r} {f = f} n x y named balanced e late bad =
    let is = ap beginning e ∙ beginning-closed n x y named balanced in
    let inner = subst (λ k. BeginningHasFault p (length r) k f) is (beginning-bad bad) in
    late_not_balanced inner.1 late 0 balanced

-- a text that closes the open default after a sentence removes its missing brace
by_closing : (p : ℕ) (t : Tree) (n w : List ℕ) → IsName n
    → IsMended p (text t ++ (dollar ∷ opening_brace ∷ n ++ colon ∷ w))
    (MissingClosingBrace (p + length (text t) + 1))
by_closing p t n w named =
    let (more, is, closed) = closable w 1 in
    (more, is, not_bad more ((closes_one (w ++ more)).0 closed))
  where
    not_bad : (more : List ℕ) → Closes (w ++ more)
        → ¬ (HasFault p ((text t ++ (dollar ∷ opening_brace ∷ n ++ colon ∷ w)) ++ more)
        (MissingClosingBrace (p + length (text t) + 1)))
    not_bad more (x, y, balanced, e) fault =
        let q = fault_parts fault in
        let (after, front, at) = bad_by q.bad in
        let long : length (text t) ≡ length (text q.before) = omega arith in
        let opened : List ℕ = dollar ∷ opening_brace ∷ n ++ colon ∷ w in
        let same : opened ++ more ≡ q.after =
        sym (drop-append_seam (text t) (opened ++ more))
        ∙ ap (λ z. drop (length (text t)) z) (sym (append_assoc (text t) opened more) ∙ q.parts)
        ∙ ap (λ k. drop k (text q.before ++ q.after)) long
        ∙ drop-append_seam (text q.before) q.after in
        let closed : opened ++ more ≡ dollar ∷ opening_brace ∷ n ++ (colon ∷ x ++ closing_brace ∷ y) =
        append_assoc (dollar ∷ opening_brace ∷ n) (colon ∷ w) more
        ∙ ap (λ z. dollar ∷ opening_brace ∷ n ++ colon ∷ z) e in
        closed_not_bad n x y named balanced (sym same ∙ closed) tt q.bad

-- a fault before the end of a text is settled, unless only the end reveals it
settled_before : (end : ℕ) (f : Fault) → (range_of (Some f)).end < end → ¬ (IsLate f)
    → ((position : ℕ) (name : List ℕ) → ¬ (f ≡ NoSuchVariable position name)) → IsSettled end f
settled_before end (InvalidEscapeSequence position (Some c)) before early known = tt
settled_before end (InvalidEscapeSequence position None) before early known = absurd (early tt)
settled_before end (MissingVariableName position len) before early known = before
settled_before end (UnexpectedCharacter position c expected) before early known = tt
settled_before end (MissingClosingBrace position) before early known = absurd (early tt)
settled_before end (NoSuchVariable position name) before early known = absurd (known position name refl)

-- a bad item after a sentence, whose fault isn't settled
bad_mended : {p : ℕ} {r : List ℕ} {f : Fault} (q : ℕ) (t : Tree) → IsWellFormed t → p ≡ q + length (text t)
    → IsBad p r f → ¬ (IsSettled (p + length r) f) → IsMended q (text t ++ r) f
bad_mended q t formed at escape_at_end unsettled =
    by_item t (Escaped dollar) _ (dollar ∷ []) formed refl (λ h. cc) refl
    (ascii_alone dollar (omega arith))
bad_mended q t formed at (escape special front) unsettled = absurd (unsettled tt)
bad_mended q t formed at dollar_at_end unsettled =
    by_item t (Short (underscore ∷ [])) _ (underscore ∷ []) formed ((refl, tt), tt)
    (λ h. cc) refl (ascii_alone underscore (omega arith))
bad_mended q t formed at (dollar_alone brace name) unsettled = absurd (unsettled (omega arith))
bad_mended q t formed at brace_at_end unsettled =
    by_item t (Braced (underscore ∷ [])) _ (underscore ∷ closing_brace ∷ []) formed (refl, tt)
    (λ h. cc) refl
    (IsUtf8-append (underscore ∷ []) (closing_brace ∷ []) (ascii_alone underscore (omega arith))
    (ascii_alone closing_brace (omega arith)))
bad_mended q t formed at (brace_alone name) unsettled = absurd (unsettled (omega arith))
bad_mended q t formed at (name_at_end n named) unsettled =
    by_item t (Braced n) _ (closing_brace ∷ []) formed named (λ h. cc) refl
    (ascii_alone closing_brace (omega arith))
bad_mended q t formed at (name_alone n x named name closing separator mark front) unsettled =
    absurd (unsettled tt)
bad_mended q t formed at (optional_at_end n named) unsettled =
    by_item t (Optional n) _ (closing_brace ∷ []) formed named (λ h. cc)
    (append_assoc (dollar ∷ opening_brace ∷ n) (question_mark ∷ []) (closing_brace ∷ []))
    (ascii_alone closing_brace (omega arith))
bad_mended q t formed at (optional_alone n x named closing front) unsettled = absurd (unsettled tt)
bad_mended q t formed at (unclosed n w named none) unsettled =
    let opened : List ℕ = dollar ∷ opening_brace ∷ n ++ colon ∷ w in
    subst (λ k. IsMended q (text t ++ opened) (MissingClosingBrace (k + 1))) (sym at)
    (by_closing q t n w named)
bad_mended {p = p} {r = r} {f = f} q t formed at (inside n w v named balanced fault) unsettled =
    let long = length-append n (colon ∷ w ++ closing_brace ∷ v) in
    let longer = length-append w (closing_brace ∷ v) in
    let before : (range_of (Some f)).end < p + length r = omega (arith, fault_within fault, long, longer) in
    absurd (unsettled (settled_before _ f before (λ late. late_not_balanced fault late 0 balanced)
    (λ position name. fault_is_known position name fault)))

-- each fault that isn't settled changes or goes away if some text is appended
pub unsettled_mended : (p : ℕ) (s : List ℕ) (f : Fault) → HasFault p s f → ¬ (IsSettled (p + length s) f)
    → (more : List ℕ) × IsUtf8 more × (¬ (HasFault p (s ++ more) f))
unsettled_mended p s f (fault_after {r = r} t formed bad) unsettled =
    let ends : p + length (text t) + length r ≡ p + length (text t ++ r) =
    omega (arith, length-append (text t) r) in
    bad_mended p t formed refl bad (λ settled. unsettled (subst (λ end. IsSettled end f) ends settled))
