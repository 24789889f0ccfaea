-- Faults that stay, whatever is appended to the text.
use Rattle.std.proofs.Common.{◌≡◌, ℕ, ◌+◌, List, ◌∷◌, ◌++◌, length, sym, subst, append_assoc, length-append, arith}
use Rattle.std.specs.Str.{IsUtf8}
use Rattle.subst_error.specs.Fault.{Fault}
use Rattle.subst_error.specs.declared.CharOrByte.{CharOrByte}
use Rattle.subst_error.specs.declared.CharOrByte.TheVariants.{Char, Byte}
use Rattle.subst_language.specs.Language.Bytes.{dollar, colon, question_mark, backslash, opening_brace, closing_brace}
use Rattle.subst_language.specs.Language.Character.{IsFrontCharacter}
use Rattle.subst_language.specs.Language.Tree.{text}
use Rattle.subst_language.specs.Language.BadItem.{IsBad, HasFault}
use Rattle.subst_language.specs.Language.BadItem.IsBad.{escape_at_end, escape, dollar_at_end, dollar_alone, brace_at_end, brace_alone, name_at_end, name_alone, optional_at_end, optional_alone, unclosed, inside}
use Rattle.subst_language.specs.Language.BadItem.HasFault.{fault_after}
use Rattle.subst_language.specs.Language.Laws.{IsSettled}
use Rattle.subst_language.proofs.Language.FrontCharacterLemmas.{begins_more}
use Rattle.subst_language.proofs.Language.RangeLemmas.{begins_with_some, after_braced_name, bad_is_text}
use Rattle.subst_language.proofs.Language.Utf8Lemmas.{after_ascii}

-- the character at the front of a text stays if more is appended
front_stays : (b : ℕ) (x more : List ℕ) (c : CharOrByte) → IsUtf8 (b ∷ x) → IsFrontCharacter (b ∷ x) c
    → IsFrontCharacter (b ∷ x ++ more) c
front_stays b x more (Char c) is front = begins_more (b ∷ x) more c front
front_stays b x more (Byte a) is (none, rest) =
    let some = begins_with_some b x is in absurd (none some.0 some.1)

-- the rest after `${` and a name, with more appended
after_name_more : (n x more : List ℕ)
    → dollar ∷ opening_brace ∷ n ++ (x ++ more) ≡ (dollar ∷ opening_brace ∷ n ++ x) ++ more
after_name_more n x more = sym (append_assoc (dollar ∷ opening_brace ∷ n) x more)

-- the rest after a default, with more appended
after_default_more : (n w v more : List ℕ)
    → dollar ∷ opening_brace ∷ n ++ (colon ∷ w ++ closing_brace ∷ (v ++ more))
    ≡ (dollar ∷ opening_brace ∷ n ++ (colon ∷ w ++ closing_brace ∷ v)) ++ more
after_default_more n w v more = simp append_assoc

-- a bad item whose fault is settled stays one if more is appended
bad_stays : {p : ℕ} {r : List ℕ} {f : Fault} (more : List ℕ) → IsBad p r f → IsUtf8 r
    → IsSettled (p + length r) f
    → IsBad p (r ++ more) f
bad_stays more escape_at_end is settled = elim settled [ ]
bad_stays more (escape {b = b} {x = x} {c = c} special front) is settled =
    escape special (front_stays b x more c (after_ascii (b ∷ x) backslash (omega arith) is) front)
bad_stays more dollar_at_end is settled = absurd (omega arith)
bad_stays more (dollar_alone brace name) is settled = dollar_alone brace name
bad_stays more brace_at_end is settled = absurd (omega arith)
bad_stays more (brace_alone name) is settled = brace_alone name
bad_stays more (name_at_end n named) is settled = elim settled [ ]
bad_stays {p = p} {f = f} more (name_alone {b = b} {c = c} n x named name closing separator mark front) is
    settled =
    let front = front_stays b x more c (after_braced_name n (b ∷ x) named is) front in
    subst (λ w. IsBad p w f) (after_name_more n (b ∷ x) more)
    (name_alone n (x ++ more) named name closing separator mark front)
bad_stays more (optional_at_end n named) is settled = elim settled [ ]
bad_stays {p = p} {f = f} more (optional_alone {b = b} {c = c} n x named closing front) is settled =
    let marked = after_braced_name n (question_mark ∷ b ∷ x) named is in
    let front = front_stays b x more c (after_ascii (b ∷ x) question_mark (omega arith) marked) front in
    subst (λ w. IsBad p w f) (after_name_more n (question_mark ∷ b ∷ x) more)
    (optional_alone n (x ++ more) named closing front)
bad_stays more (unclosed n w named none) is settled = elim settled [ ]
bad_stays {p = p} {f = f} more (inside n w v named balanced fault) is settled =
    subst (λ u. IsBad p u f) (after_default_more n w v more) (inside n w (v ++ more) named balanced fault)

-- a settled fault of a text stays if more is appended
fault_stays : {p : ℕ} {s : List ℕ} {f : Fault} (more : List ℕ) → HasFault p s f → IsUtf8 s
    → IsSettled (p + length s) f → HasFault p (s ++ more) f
fault_stays {p = p} {f = f} more (fault_after {r = r} t formed bad) is settled =
    let ends : p + length (text t ++ r) ≡ p + length (text t) + length r =
    omega (arith, length-append (text t) r) in
    subst (λ w. HasFault p w f) (sym (append_assoc (text t) r more))
    (fault_after t formed
    (bad_stays more bad (bad_is_text (text t) bad is) (subst (λ end. IsSettled end f) ends settled)))

-- the same, with the hypotheses in the order of the law
pub settled_stays : (p : ℕ) (s more : List ℕ) (f : Fault) → IsUtf8 s → HasFault p s f
    → IsSettled (p + length s) f → HasFault p (s ++ more) f
settled_stays p s more f is fault settled = fault_stays more fault is settled
