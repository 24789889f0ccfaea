-- A text without a question mark has its earlier fault, except for the message of what was expected.
use Rattle.std.proofs.Common.{◌≡◌, ℕ, List, [], ◌∷◌, ◌++◌, refl, sym, ap, ◌∙◌, subst}
use Rattle.subst_language.specs.Language.Bytes.{question_mark, closing_brace}
use Rattle.subst_language.specs.Language.Tree.{text}
use Rattle.subst_language.specs.Language.WellFormed.{IsWellFormed}
use Rattle.subst_error.specs.Fault.{Fault}
use Rattle.subst_language.specs.Language.BadItem.{IsBad, HasFault}
use Rattle.subst_language.specs.Language.BadItem.IsBad.{escape_at_end, escape, dollar_at_end, dollar_alone, brace_at_end, brace_alone, name_at_end, name_alone, optional_at_end, optional_alone, unclosed, inside}
use Rattle.subst_language.specs.Language.BadItem.HasFault.{fault_after}
use Rattle.subst_language.specs.Earlier.Tree.{text as earlier_text}
use Rattle.subst_language.specs.Earlier.WellFormed.{IsWellFormed as IsEarlierWellFormed}
use Rattle.subst_language.specs.Earlier.BadItem.{IsBad as IsEarlierBad, HasFault as HasEarlierFault}
use Rattle.subst_language.specs.Earlier.Extension.{extended, without_expected}
use Rattle.subst_language.proofs.Earlier.ExtendedLemmas.{text-extended, IsWellFormed-extended, tree_before}
use Rattle.subst_language.proofs.Earlier.QuestionMarkLemmas.{HasNoQuestionMark, no_mark_in_prefix, no_mark_in_rest, no_mark_first, no_mark_after_name, no_mark_in_default}

-- P holds of a fault that equals f except for the message
abbrev pub LikeFault : (Fault → Type 0) → Fault → Type 0
LikeFault P f = (g : Fault) × P g × (without_expected f ≡ without_expected g)

mutual
  -- a bad item without a question mark was one
  bad_before : {p : ℕ} {r : List ℕ} {f : Fault} → IsBad p r f → HasNoQuestionMark r
      → LikeFault (IsEarlierBad p r) f
  bad_before escape_at_end none = (_, IsEarlierBad.escape_at_end, refl)
  bad_before (escape n c) none = (_, IsEarlierBad.escape n c, refl)
  bad_before dollar_at_end none = (_, IsEarlierBad.dollar_at_end, refl)
  bad_before (dollar_alone o n) none = (_, IsEarlierBad.dollar_alone o n, refl)
  bad_before brace_at_end none = (_, IsEarlierBad.brace_at_end, refl)
  bad_before (brace_alone n) none = (_, IsEarlierBad.brace_alone n, refl)
  bad_before (name_at_end n h) none = (_, IsEarlierBad.name_at_end n h, refl)
  bad_before (name_alone n x h i j k m c) none = (_, IsEarlierBad.name_alone n x h i j k c, refl)
  bad_before (optional_at_end n h) none =
      absurd (no_mark_first question_mark [] (no_mark_after_name n (question_mark ∷ []) none) refl)
  bad_before (optional_alone {b = b} n x h i c) none =
      absurd (no_mark_first question_mark (b ∷ x) (no_mark_after_name n (question_mark ∷ b ∷ x) none) refl)
  bad_before (unclosed n w h o) none = (_, IsEarlierBad.unclosed n w h o, refl)
  bad_before (inside n w v h b f) none =
      let (g, k, same) = fault_before f (no_mark_in_default n w (closing_brace ∷ v) none) in
      (g, IsEarlierBad.inside n w v h b k, same)

  -- a text without a question mark had the fault that it has
  pub fault_before : {p : ℕ} {s : List ℕ} {f : Fault} → HasFault p s f → HasNoQuestionMark s
      → LikeFault (HasEarlierFault p s) f
  fault_before {p = p} (fault_after {r = r} t w b) none =
      let (u, is) = tree_before t (no_mark_in_prefix (text t) r none) in
      let (g, bad, same) = bad_before b (no_mark_in_rest (text t) r none) in
      let spelled : earlier_text u ≡ text t = sym (ap text is ∙ text-extended u) in
      let well_formed : IsEarlierWellFormed u = rw (← IsWellFormed-extended u, ← is) w in
      let found = HasEarlierFault.fault_after u well_formed (rw spelled bad) in
      (g, subst (λ x. HasEarlierFault p (x ++ r) g) spelled found, same)

mutual
  -- a bad item without a question mark stays one
  bad_extended : {p : ℕ} {r : List ℕ} {g : Fault} → IsEarlierBad p r g → HasNoQuestionMark r
      → LikeFault (IsBad p r) g
  bad_extended IsEarlierBad.escape_at_end none = (_, escape_at_end, refl)
  bad_extended (IsEarlierBad.escape n c) none = (_, escape n c, refl)
  bad_extended IsEarlierBad.dollar_at_end none = (_, dollar_at_end, refl)
  bad_extended (IsEarlierBad.dollar_alone o n) none = (_, dollar_alone o n, refl)
  bad_extended IsEarlierBad.brace_at_end none = (_, brace_at_end, refl)
  bad_extended (IsEarlierBad.brace_alone n) none = (_, brace_alone n, refl)
  bad_extended (IsEarlierBad.name_at_end n h) none = (_, name_at_end n h, refl)
  bad_extended (IsEarlierBad.name_alone {b = b} n x h i j k c) none =
      (_, name_alone n x h i j k (no_mark_first b x (no_mark_after_name n (b ∷ x) none)) c, refl)
  bad_extended (IsEarlierBad.unclosed n w h o) none = (_, unclosed n w h o, refl)
  bad_extended (IsEarlierBad.inside n w v h b g) none =
      let (f, k, same) = fault_extended g (no_mark_in_default n w (closing_brace ∷ v) none) in
      (f, inside n w v h b k, same)

  -- a text without a question mark has the fault that it had
  pub fault_extended : {p : ℕ} {s : List ℕ} {g : Fault} → HasEarlierFault p s g → HasNoQuestionMark s
      → LikeFault (HasFault p s) g
  fault_extended {p = p} (HasEarlierFault.fault_after {r = r} t w b) none =
      let (f, bad, same) = bad_extended b (no_mark_in_rest (earlier_text t) r none) in
      let spelled = text-extended t in
      let well_formed : IsWellFormed (extended t) = rw IsWellFormed-extended w in
      let found = fault_after (extended t) well_formed (rw spelled bad) in
      (f, subst (λ x. HasFault p (x ++ r) f) spelled found, same)
