-- Faults and values of a text at another position, and of a text after a sentence.
use Rattle.std.proofs.Common.{◌≡◌, ℕ, ◌+◌, List, ◌++◌, length, Option, Some, None, refl, sym, ap, ◌∙◌, subst, inr, arith}
use Rattle.subst_error.specs.Fault.{Fault}
use Rattle.subst_language.specs.Language.Tree.{Item, Plain, Escaped, Short, Braced, Optional, Default, Tree, Empty, Then, item_text, text}
use Rattle.subst_language.specs.Language.Join.{join}
use Rattle.subst_language.specs.Language.Followed.{IsFollowed}
use Rattle.subst_language.specs.Language.Sentence.{Spells}
use Rattle.subst_language.specs.Language.LookUp.{LookUp}
use Rattle.subst_language.specs.Language.Moved.{moved}
use Rattle.subst_language.specs.Language.Value.{Value, Bytes, Missing, joined, found_or, item_value, value}
use Rattle.subst_language.specs.Language.BadItem.{IsBad, HasFault}
use Rattle.subst_language.specs.Language.BadItem.IsBad.{escape_at_end, escape, dollar_at_end, dollar_alone, brace_at_end, brace_alone, name_at_end, name_alone, optional_at_end, optional_alone, unclosed, inside}
use Rattle.subst_language.specs.Language.BadItem.HasFault.{fault_after}
use Rattle.subst_language.specs.Language.Answer.{Answers, Gives, Refuses, IsMissing}
use Rattle.subst_language.proofs.Language.FaultLemmas.{fault_after_tree}
use Rattle.subst_language.proofs.Language.TreeLemmas.{spells_join, value-join}

mutual
  -- a bad item n bytes further on has its fault there
  bad_moved : {p : ℕ} {r : List ℕ} {f : Fault} (n q : ℕ) → p + n ≡ q → IsBad p r f → IsBad q r (moved n f)
  bad_moved n q at escape_at_end = rw at escape_at_end
  bad_moved n q at (escape special front) = rw at (escape special front)
  bad_moved n q at dollar_at_end = rw at dollar_at_end
  bad_moved n q at (dollar_alone brace name) = rw at (dollar_alone brace name)
  bad_moved n q at brace_at_end = rw at brace_at_end
  bad_moved n q at (brace_alone name) = rw at (brace_alone name)
  bad_moved {p = p} n q at (name_at_end m named) =
      let same : p + 1 + n ≡ q + 1 = omega arith in rw same (name_at_end m named)
  bad_moved {p = p} n q at (name_alone m x named name closing separator mark front) =
      let same : p + 2 + length m + n ≡ q + 2 + length m = omega arith in
      rw same (name_alone m x named name closing separator mark front)
  bad_moved {p = p} n q at (optional_at_end m named) =
      let same : p + 1 + n ≡ q + 1 = omega arith in rw same (optional_at_end m named)
  bad_moved {p = p} n q at (optional_alone m x named closing front) =
      let same : p + 3 + length m + n ≡ q + 3 + length m = omega arith in
      rw same (optional_alone m x named closing front)
  bad_moved {p = p} n q at (unclosed m w named none) =
      let same : p + 1 + n ≡ q + 1 = omega arith in rw same (unclosed m w named none)
  bad_moved {p = p} n q at (inside m w v named balanced fault) =
      inside m w v named balanced (fault_moved n (q + 3 + length m) (omega arith) fault)

  -- a text n bytes further on has its fault there
  pub fault_moved : {p : ℕ} {s : List ℕ} {f : Fault} (n q : ℕ) → p + n ≡ q → HasFault p s f
      → HasFault q s (moved n f)
  fault_moved n q at (fault_after t formed bad) =
      fault_after t formed (bad_moved n (q + length (text t)) (omega arith) bad)

-- the value of a text that is moved
abbrev pub moved_value : ℕ → Value → Value
moved_value n (Bytes x) = Bytes x
moved_value n (Missing position name) = Missing (position + n) name

-- moved values joined are the joined value, moved
joined_moved : (n : ℕ) (v w : Value) → joined (moved_value n v) (moved_value n w) ≡ moved_value n (joined v w)
joined_moved n (Bytes x) (Bytes y) = refl
joined_moved n (Bytes x) (Missing position name) = refl
joined_moved n (Missing position name) w = refl

-- a found value, or else a moved value, is the found value or else the value, moved
found_moved : (n : ℕ) (found : Option (List ℕ)) (v w : Value) → w ≡ moved_value n v
    → found_or found w ≡ moved_value n (found_or found v)
found_moved n (Some x) v w e = refl
found_moved n None v w e = e

mutual
  -- an item n bytes further on has its value there
  item_value_moved : (item : Item) (p n q : ℕ) (look : LookUp) → p + n ≡ q
      → item_value q item look ≡ moved_value n (item_value p item look)
  item_value_moved (Plain b) p n q look at = refl
  item_value_moved (Escaped b) p n q look at = refl
  item_value_moved (Short m) p n q look at =
      found_moved n (look m) _ _ (ap (λ k. Missing k m) (omega arith))
  item_value_moved (Braced m) p n q look at =
      found_moved n (look m) _ _ (ap (λ k. Missing k m) (omega arith))
  item_value_moved (Optional m) p n q look at = found_moved n (look m) (Bytes _) (Bytes _) refl
  item_value_moved (Default m t) p n q look at =
      found_moved n (look m) _ _
      (value_moved t (p + 3 + length m) n (q + 3 + length m) look (omega arith))

  -- a tree n bytes further on has its value there
  pub value_moved : (t : Tree) (p n q : ℕ) (look : LookUp) → p + n ≡ q
      → value q t look ≡ moved_value n (value p t look)
  value_moved Empty p n q look at = refl
  value_moved (Then item rest) p n q look at =
      let l = length (item_text item) in
      let first = item_value_moved item p n q look at in
      let after = value_moved rest (p + l) n (q + l) look (omega arith) in
      let both = joined_moved n (item_value p item look) (value (p + l) rest look) in
      cc

-- a text after a sentence that it may follow, with its fault
pub joined_fault : (t : Tree) (a b : List ℕ) (p : ℕ) (f : Fault) → Spells t a → IsFollowed t b
    → HasFault p b f → HasFault p (a ++ b) (moved (length a) f)
joined_fault t a b p f spells follows fault =
    subst (λ w. HasFault p (w ++ b) (moved (length w) f)) (sym spells.spelled)
    (fault_after_tree p t b _ spells.well_formed follows (fault_moved (length (text t)) _ refl fault))

-- the value of two sentences joined, if that of the first is bytes
after_bytes : (t u : Tree) (a x : List ℕ) (look : LookUp) → Spells t a → value 0 t look ≡ Bytes x
    → value 0 (join t u) look ≡ joined (Bytes x) (moved_value (length a) (value 0 u look))
after_bytes t u a x look spells gives =
    let long = ap length spells.spelled in
    let there = value_moved u 0 (length a) (0 + length (text t)) look (omega arith) in
    value-join 0 t u look ∙ ap (λ k. joined k (value (0 + length (text t)) u look)) gives
    ∙ ap (joined (Bytes x)) there

-- the answer of two sentences joined is the bytes of both, if the second may follow the first
pub joined_gives : (t : Tree) (a b x y : List ℕ) (look : LookUp) → Spells t a → IsFollowed t b
    → value 0 t look ≡ Bytes x → Answers b look (Gives y) → Answers (a ++ b) look (Gives (x ++ y))
joined_gives t a b x y look spells follows gives (u, r, w) = (
  join t u,
  spells_join t u a b spells r follows,
  after_bytes t u a x look spells gives ∙ ap (λ v. joined (Bytes x) (moved_value (length a) v)) w,
)

-- if the value of the first is bytes, a missing variable of the second is that of the whole
pub joined_missing : (t u : Tree) (a b x : List ℕ) (look : LookUp) (f : Fault) → Spells t a → Spells u b
    → IsFollowed t b → value 0 t look ≡ Bytes x → IsMissing (value 0 u look) f
    → Answers (a ++ b) look (Refuses (moved (length a) f))
joined_missing t u a b x look f spells r follows gives (position, name, missing, same) = inr (
  join t u,
  spells_join t u a b spells r follows,
  (
    position + length a,
    name,
    after_bytes t u a x look spells gives ∙ ap (λ v. joined (Bytes x) (moved_value (length a) v)) missing,
    ap (moved (length a)) same,
  ),
)

-- a missing variable of the first of two sentences is that of the whole
pub missing_before : (t u : Tree) (a b : List ℕ) (look : LookUp) (f : Fault) → Spells t a → Spells u b
    → IsFollowed t b → IsMissing (value 0 t look) f → Answers (a ++ b) look (Refuses f)
missing_before t u a b look f spells r follows (position, name, missing, same) = inr (
  join t u,
  spells_join t u a b spells r follows,
  (
    position,
    name,
    value-join 0 t u look ∙ ap (λ v. joined v (value (0 + length (text t)) u look)) missing,
    same,
  ),
)
