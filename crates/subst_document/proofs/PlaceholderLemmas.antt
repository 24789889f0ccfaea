-- Placeholders as they are written.
use Rattle.std.proofs.Common.{◌≡◌, ◌≢◌, ◌<◌, ◌≤◌, ◌+◌, Bool, true, false, not, ◌==◌, ℕ, suc, zero, List, [], ◌∷◌, ◌++◌, length, take, get_or, eq-eqb, refl, sym, ap, ◌∙◌, subst, append_assoc, append-nil, arith}
use Rattle.std.specs.List.{AllByRecursion}
use Rattle.std.proofs.lemmas.Grind.{common_steps}
use Rattle.std.proofs.lemmas.List.{take_more}
use Rattle.std.proofs.lemmas.List.Elements.{filter-append}
use Rattle.subst_language.specs.Language.Balanced.{IsBalanced}
use Rattle.subst_language.specs.Language.Balanced.IsBalanced.{empty}
use Rattle.subst_language.specs.Language.Bytes.{backslash, closing_brace, dollar, opening_brace}
use Rattle.subst_language.specs.Language.Name.{IsNameByte}
use Rattle.subst_language.specs.Lemmas.Closing.{Completes}
use Rattle.subst_document.specs.Splice.{bare, IsPlaceholder}
use Rattle.subst_document.specs.Splice.IsPlaceholder.{bare_braces, braces, name}
use Rattle.subst_language.proofs.Language.ClosingLemmas.{completes_byte, completes_closing, completes_escape, completes_opening}

-- the text leaves this many braces open: with any text that closes them it is balanced
abbrev pub LeavesOpen : List ℕ → ℕ → Type 0
LeavesOpen x depth = (v : List ℕ) → Completes depth v → IsBalanced (x ++ v)

-- a text that leaves none open is balanced
pub open_none : (x : List ℕ) → LeavesOpen x zero → IsBalanced x
open_none x leaves = subst IsBalanced (append-nil x) (leaves [] empty)

module _ (x : List ℕ) (depth : ℕ) (leaves : LeavesOpen x depth) where
  -- a byte that is no backslash and no brace opens none and closes none
  pub open_byte : (b : ℕ) → b ≢ backslash → b ≢ opening_brace → b ≢ closing_brace
      → LeavesOpen (x ++ b ∷ []) depth
  open_byte b no_slash no_open no_close v completes =
      subst IsBalanced (sym (append_assoc x (b ∷ []) v))
      (leaves (b ∷ v) (completes_byte depth v b no_slash no_open no_close completes))

  -- nor does an escape
  pub open_escape : (b : ℕ) → LeavesOpen ((x ++ backslash ∷ []) ++ b ∷ []) depth
  open_escape b v completes =
      subst IsBalanced (sym (append_assoc (x ++ backslash ∷ []) (b ∷ []) v))
      (subst IsBalanced (sym (append_assoc x (backslash ∷ []) (b ∷ v)))
      (leaves (backslash ∷ b ∷ v) (completes_escape depth v b completes)))

  -- an opening brace opens one
  pub open_opening : LeavesOpen (x ++ opening_brace ∷ []) (suc depth)
  open_opening v completes =
      subst IsBalanced (sym (append_assoc x (opening_brace ∷ []) v))
      (leaves (opening_brace ∷ v) (completes_opening depth v completes))

-- a closing brace closes one
pub open_closing : (x : List ℕ) (depth : ℕ) → LeavesOpen x (suc depth)
    → LeavesOpen (x ++ closing_brace ∷ []) depth
open_closing x depth leaves v completes =
    subst IsBalanced (sym (append_assoc x (closing_brace ∷ []) v))
    (leaves (closing_brace ∷ v) (completes_closing depth v completes))

-- a dollar with braces, the closing one as the last byte, if backslashes don't escape
pub bare_placeholder : (x : List ℕ) (at : ℕ) → at + 1 ≡ length x → get_or x at 0 ≡ closing_brace
    → IsBalanced (bare (take at x)) → IsPlaceholder (dollar ∷ opening_brace ∷ x)
bare_placeholder x at last closes balanced =
    let within : at < length x = omega (arith, last) in
    let all : take (at + 1) x ≡ x = grind (arith, common_steps, last) in
    let inner : x ≡ take at x ++ closing_brace ∷ [] =
    sym all ∙ take_more x at 0 within ∙ ap (λ b. take at x ++ b ∷ []) closes in
    subst (λ (y : List ℕ). IsPlaceholder (dollar ∷ opening_brace ∷ y)) (sym inner)
    (bare_braces (take at x) balanced)

-- one more byte, without backslashes, that is no brace
pub open_bare : (x : List ℕ) (depth b : ℕ) → LeavesOpen (bare x) depth → b ≢ opening_brace → b ≢ closing_brace
    → LeavesOpen (bare (x ++ b ∷ [])) depth
open_bare x depth b leaves no_open no_close =
    subst (λ y. LeavesOpen y depth) (sym (filter-append (λ c. not (c == backslash)) x (b ∷ [])))
    (kept (b == backslash) refl)
  where
    kept : (is : Bool) → (b == backslash) ≡ is → LeavesOpen (bare x ++ bare (b ∷ [])) depth
    kept true same = rw (same, append-nil (bare x)) leaves
    kept false same =
        let other : b ≢ backslash = λ e. let is = eq-eqb b backslash e in cc in
        rw same (open_byte (bare x) depth leaves b other no_open no_close)

-- the text leaves this many braces open; if it ends with a bare backslash, it does after any further byte
abbrev pub Reaches : List ℕ → ℕ → Bool → Type 0
Reaches x depth is_escaped = (is_escaped ≡ false → LeavesOpen x depth)
    × (is_escaped ≡ true → (b : ℕ) → LeavesOpen (x ++ b ∷ []) depth)

module _ (x : List ℕ) (depth : ℕ) where
  pub reaches_plain : LeavesOpen x depth → Reaches x depth false
  reaches_plain leaves = (λ _. leaves, λ same. absurd (false_not_true same))
    where
      false_not_true : false ≡ true → ⊥
      false_not_true same = cc

  pub reaches_escaped : ((b : ℕ) → LeavesOpen (x ++ b ∷ []) depth) → Reaches x depth true
  reaches_escaped leaves = (λ same. absurd (true_not_false same), λ _. leaves)
    where
      true_not_false : true ≡ false → ⊥
      true_not_false same = cc

-- a dollar with some name bytes
pub name_placeholder : (x : List ℕ) (len : ℕ) → AllByRecursion IsNameByte (take len x) → 0 < len
    → len ≤ length x → IsPlaceholder (dollar ∷ take len x)
name_placeholder x len run some within =
    let count : length (take len x) ≡ len = grind (arith, common_steps) in
    some_names (take len x) run (omega (arith, count, some))
  where
    some_names : (y : List ℕ) → AllByRecursion IsNameByte y → 0 < length y → IsPlaceholder (dollar ∷ y)
    some_names [] run some = absurd (omega (arith, some))
    some_names (b ∷ y) run some = name (b ∷ y) run

-- a dollar with braces, the closing one at this index after the opening one
pub braces_placeholder : (x : List ℕ) (at : ℕ) → at < length x → get_or x at 0 ≡ closing_brace
    → IsBalanced (take at x) → IsPlaceholder (dollar ∷ take (at + 2) (opening_brace ∷ x))
braces_placeholder x at within closes balanced =
    let inner : take (at + 1) x ≡ take at x ++ closing_brace ∷ [] =
    take_more x at 0 within ∙ ap (λ b. take at x ++ b ∷ []) closes in
    let all : take (at + 2) (opening_brace ∷ x) ≡ opening_brace ∷ take (at + 1) x = grind (arith, common_steps) in
    subst (λ y. IsPlaceholder (dollar ∷ y)) (sym (all ∙ ap (λ y. opening_brace ∷ y) inner))
    (braces (take at x) balanced)
