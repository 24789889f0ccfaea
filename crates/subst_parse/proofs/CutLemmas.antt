-- Bad items before a closing brace: a bad item at the start of a text stays one if the text is cut before any
-- of its closing braces.
use Rattle.std.proofs.Common.{◌≡◌, ◌≢◌, ℕ, List, [], ◌∷◌, ◌++◌, refl, sym, ◌∙◌, subst, arith}
use Rattle.std.specs.List.{AllByRecursion}
use Rattle.std.proofs.lemmas.List.{append-nil}
use Rattle.subst_language.specs.Language.Bytes.{IsEscapable, closing_brace, dollar, question_mark, backslash, opening_brace}
use Rattle.subst_language.specs.Language.Name.{IsName, IsNameByte}
use Rattle.subst_language.specs.Language.BadItem.{IsBad}
use Rattle.subst_error.specs.Fault.{Fault}
use Rattle.subst_language.specs.Language.BadItem.IsBad.{escape_at_end, escape, dollar_at_end, dollar_alone, brace_at_end, brace_alone, name_at_end, name_alone, optional_at_end, optional_alone, unclosed, inside}
use Rattle.subst_parse.specs.Placeholder.{IsBadWhenCut}
use Rattle.subst_language.specs.Language.Name.{BeginsWithNo}
use Rattle.subst_language.proofs.Language.FrontCharacterLemmas.{front_cut}
use Rattle.subst_language.proofs.Language.ListLemmas.{first_same, rest_same, no_element}
use Rattle.subst_language.proofs.Language.NameLemmas.{name_bytes, name_byte_plain}
use Rattle.subst_language.proofs.Language.BeginningLemmas.{bad_dollar, bad_braces}

-- a text that is cut before a closing brace keeps each prefix without one
cut_after : (n : List ℕ) {r : List ℕ} (x q : List ℕ) → AllByRecursion (λ b. b ≢ closing_brace) n
    → n ++ r ≡ x ++ closing_brace ∷ q
    → (y : List ℕ) × (x ≡ n ++ y) × (r ≡ y ++ closing_brace ∷ q)
cut_after [] x q other e = (x, refl, e)
cut_after (b ∷ n) [] q other e = absurd (other.0 (first_same e))
cut_after (b ∷ n) (a ∷ x) q other e =
    let (y, is, f) = cut_after n x q other.1 (rest_same e) in (y, cc (is, first_same e), f)

-- a text with no closing brace isn't cut before one
uncut : (n x q : List ℕ) → AllByRecursion (λ b. b ≢ closing_brace) n → ¬ (n ≡ x ++ closing_brace ∷ q)
uncut n x q other e =
    let (y, is, f) = cut_after n x q other (append-nil n ∙ e) in no_element closing_brace y q f

-- name bytes are no closing brace
name_uncut : (n : List ℕ) → AllByRecursion IsNameByte n → AllByRecursion (λ b. b ≢ closing_brace) n
name_uncut [] each = tt
name_uncut (b ∷ n) each = ((name_byte_plain b each.0).2, name_uncut n each.1)

-- `${name` has no closing brace
braced_uncut : (n : List ℕ) → IsName n → AllByRecursion (λ b. b ≢ closing_brace) (dollar ∷ opening_brace ∷ n)
braced_uncut n named = (omega arith, (omega arith, name_uncut n (name_bytes n named)))

-- a text that doesn't begin with such a byte has no prefix that does
begins_no_front : (P : ℕ → Type 0) (x y : List ℕ) {r : List ℕ} → BeginsWithNo P r → r ≡ x ++ y
    → BeginsWithNo P x
begins_no_front P [] y none e = tt
begins_no_front P (a ∷ x) y none e = subst (BeginsWithNo P) e none

-- the fault of the bad item isn't that of a default
abbrev pub IsSimple : {p : ℕ} {r : List ℕ} {f : Fault} → IsBad p r f → Type 0
IsSimple (unclosed n w h i) = ⊥
IsSimple (inside n w v h b i) = ⊥
IsSimple _ = Unit {0}

-- a bad item whose fault isn't that of a default has it, too, if the text is cut before a closing brace
cut_bad : {p : ℕ} {r : List ℕ} {f : Fault} (bad : IsBad p r f) → IsSimple bad → (x q : List ℕ)
    → r ≡ x ++ closing_brace ∷ q → IsBad p x f
cut_bad escape_at_end simple x q e = absurd (uncut (backslash ∷ []) x q (omega arith, tt) e)
cut_bad (escape {b = b} {c = c} plain beginning) simple x q e =
    let (y, is, f) =
    cut_after (backslash ∷ b ∷ []) x q
    (omega arith, ((λ brace. plain (subst IsEscapable (sym brace) refl)), tt)) e in
    rw is (escape plain (front_cut b y q c (rw f at beginning)))
cut_bad dollar_at_end simple x q e = absurd (uncut (dollar ∷ []) x q (omega arith, tt) e)
cut_bad {p = p} (dollar_alone {b = b} unbraced unnamed) simple x q e =
    let (y, is, f) = cut_after (dollar ∷ []) x q (omega arith, tt) e in
    rw is
    (bad_dollar p y (begins_no_front (λ b. b ≡ opening_brace) y (closing_brace ∷ q) unbraced f)
    (begins_no_front IsNameByte y (closing_brace ∷ q) unnamed f))
cut_bad brace_at_end simple x q e =
    absurd (uncut (dollar ∷ opening_brace ∷ []) x q (omega arith, (omega arith, tt)) e)
cut_bad {p = p} (brace_alone {b = b} unnamed) simple x q e =
    let (y, is, f) = cut_after (dollar ∷ opening_brace ∷ []) x q (omega arith, (omega arith, tt)) e in
    rw is (bad_braces p y (begins_no_front IsNameByte y (closing_brace ∷ q) unnamed f))
cut_bad (name_at_end n named) simple x q e =
    absurd (uncut (dollar ∷ opening_brace ∷ n) x q (braced_uncut n named) e)
cut_bad (name_alone {b = b} {c = c} n r named unnamed no_close no_colon no_mark beginning) simple x q e =
    let (y, is, f) = cut_after (dollar ∷ opening_brace ∷ n) x q (braced_uncut n named) e in
    let (z, same, g) = cut_after (b ∷ []) y q (no_close, tt) f in
    rw (is, same)
    (name_alone n z named unnamed no_close no_colon no_mark (front_cut b z q c (rw g at beginning)))
cut_bad (optional_at_end n named) simple x q e =
    let (y, is, f) = cut_after (dollar ∷ opening_brace ∷ n) x q (braced_uncut n named) e in
    absurd (uncut (question_mark ∷ []) y q (omega arith, tt) f)
cut_bad (optional_alone {b = b} {c = c} n r named no_close beginning) simple x q e =
    let (y, is, f) = cut_after (dollar ∷ opening_brace ∷ n) x q (braced_uncut n named) e in
    let (z, same, g) = cut_after (question_mark ∷ b ∷ []) y q (omega arith, (no_close, tt)) f in
    rw (is, same) (optional_alone n z named no_close (front_cut b z q c (rw g at beginning)))
cut_bad (unclosed n w h i) simple x q e = absurd simple
cut_bad (inside n w v h b i) simple x q e = absurd simple

-- a bad item whose fault isn't that of a default has it wherever a default around it ends
pub bad_however : {p : ℕ} {r : List ℕ} {f : Fault} (bad : IsBad p r f) → IsSimple bad → IsBadWhenCut p r f
bad_however bad simple = record { bad = bad; cut = cut_bad bad simple }
