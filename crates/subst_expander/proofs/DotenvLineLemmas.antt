-- Lemmas on lines of .env files and their values as written.
use Rattle.std.proofs.Common.{◌≡◌, ◌<◌, ◌≤◌, ◌⊎◌, ◌↔◌, ℕ, Bool, true, false, List, [], ◌∷◌, ◌++◌, drop, length, take, IsTrue, Option, Some, None, inl, inr, refl, sym, subst, ap, ◌∙◌, append_assoc, arith}
use Rattle.std.proofs.lemmas.Grind.{common_steps}
use Rattle.std.specs.List.{list_all}
use Rattle.subst_expander.proofs.EntryLemmas.{spelled_by}
use Rattle.subst_expander.specs.DotenvLine.{Text, Wrong, before, closes, name_len, named_line, opening, pair_text, quoted_line, text_in, trimmed, value_line, wrong_message}
use Rattle.subst_expander.specs.Layers.{is_spelled}
use Rattle.subst_expander.specs.ValuesFile.{after_blanks, is_blank}
use Rattle.subst_expander.specs.declared.dotenv.shell_text.Quote.{Quote}
use Rattle.subst_expander.specs.declared.dotenv.shell_text.Quote.TheVariants.{Single, Double}
use Rattle.subst_language.specs.Language.Name.{IsName}

-- a text with bytes before it, and other bytes before these
pub before-before : (xs ys : List ℕ) (found : Option Text)
    → before xs (before ys found) ≡ before (xs ++ ys) found
before-before xs ys None = refl
before-before xs ys (Some t) =
    ap (λ text. Some (record { text = text; rest = t.rest })) (sym (append_assoc xs ys t.text))

-- two bytes that are read together
pub pair_added : (quote : Quote) (b c : ℕ) (after s pair text new : List ℕ) → after ≡ c ∷ s
    → closes quote b after ≡ false → Some pair ≡ pair_text quote b c → new ≡ text ++ pair
    → before text (text_in quote (b ∷ after)) ≡ before new (text_in quote s)
pair_added quote b c after s pair text new is unclosed paired more =
    rw (is, more, rw is at unclosed, sym paired) (before-before text pair (text_in quote s))

-- bytes and one more blank are blanks if the bytes are
all_blank : (s : List ℕ) (b : ℕ) → is_blank b ≡ true → list_all is_blank (s ++ b ∷ []) ≡ list_all is_blank s
all_blank [] b blank = rw blank refl
all_blank (x ∷ s) b blank = rw (all_blank s b blank) refl

-- bytes with a last one that is no blank aren't all blanks
not_all_blank : (s : List ℕ) (b : ℕ) → is_blank b ≡ false → list_all is_blank (s ++ b ∷ []) ≡ false
not_all_blank [] b other = rw other refl
not_all_blank (x ∷ s) b other = grind (arith, common_steps, not_all_blank s b other)

-- a trailing blank is removed
trimmed_more : (s : List ℕ) (b : ℕ) → is_blank b ≡ true → trimmed (s ++ b ∷ []) ≡ trimmed s
trimmed_more [] b blank = rw blank refl
trimmed_more (x ∷ s) b blank = rw (all_blank s b blank, trimmed_more s b blank) refl

pub trimmed_blank : (s front : List ℕ) (b : ℕ) → s ≡ front ++ b ∷ [] → is_blank b ≡ true
    → trimmed s ≡ trimmed front
trimmed_blank s front b is blank = rw is (trimmed_more front b blank)

-- bytes with a last one that is no blank are unchanged
trimmed_none : (s : List ℕ) (b : ℕ) → is_blank b ≡ false → trimmed (s ++ b ∷ []) ≡ s ++ b ∷ []
trimmed_none [] b other = rw other refl
trimmed_none (x ∷ s) b other = rw (not_all_blank (x ∷ s) b other, trimmed_none s b other) refl

pub trimmed_kept : (s front : List ℕ) (b : ℕ) → s ≡ front ++ b ∷ [] → is_blank b ≡ false → s ≡ trimmed s
trimmed_kept s front b is other = rw is (sym (trimmed_none front b other))

-- bytes without their leading blanks are no longer than before
pub after_blanks_within : (s : List ℕ) → length (after_blanks s) ≤ length s
after_blanks_within [] = omega arith
after_blanks_within (b ∷ s) = of (is_blank b) refl (after_blanks_within s)
  where
    of : (test : Bool) → is_blank b ≡ test → length (after_blanks s) ≤ length s
        → length (after_blanks (b ∷ s)) ≤ length (b ∷ s)
    of true is within = rw is (omega (arith, within))
    of false is within = rw is (omega arith)

-- the text after a line is shorter than a text that isn't empty
pub shorter_after : (begun : List ℕ) (n m : ℕ) → (0 < length begun → n < length begun)
    → (begun ≡ [] → n ≡ 0) → length begun ≤ m → 0 < m → n < m
shorter_after [] n m less none within some = omega (arith, none refl, some)
shorter_after (b ∷ s) n m less none within some = omega (arith, less (omega arith), within)

-- a quoted value
pub quoted : (quote : Quote) (name s : List ℕ) → (quote ≡ Single) ⊎ (quote ≡ Double)
    → quoted_line name (text_in quote (drop 1 (after_blanks s))) ≡ value_line quote name s
quoted quote name s (inl single) = rw single refl
quoted quote name s (inr double) = rw double refl

-- a test for names is one for variable names
spelled_so : (test : Bool) (text name : List ℕ) → name ≡ take (name_len text) text
    → IsTrue test ↔ IsName name → is_spelled (take (name_len text) text) ≡ test
spelled_so test text name is told = subst (λ n. is_spelled n ≡ test) is (spelled_by test name told)

-- a line that doesn't begin with a name
pub misnamed : (test : Bool) (text name : List ℕ) → name ≡ take (name_len text) text → IsTrue test ↔ IsName name
    → test ≡ false → Wrong (wrong_message text) ≡ named_line text
misnamed test text name is told no_name = rw (spelled_so test text name is told ∙ no_name) refl

-- a line that sets a name
pub named : (test : Bool) (text name rest value taken : List ℕ) (first : ℕ) → name ≡ take (name_len text) text
    → rest ≡ drop (name_len text) text → IsTrue test ↔ IsName name → test ≡ true → taken ≡ name
    → after_blanks rest ≡ first ∷ value → first ≡ 61
    → value_line (opening (after_blanks value)) taken value ≡ named_line text
named test text name rest value taken first is rest_is told is_name taken_is begins sign =
    let after : after_blanks (drop (name_len text) text) ≡ 61 ∷ value =
    ap after_blanks (sym rest_is) ∙ begins ∙ ap (λ b. b ∷ value) sign in
    rw (spelled_so test text name is told ∙ is_name, after, taken_is, is) refl
