-- Texts without question marks: their parts have none.
use Rattle.std.proofs.Common.{◌≢◌, ℕ, List, ◌∷◌, ◌++◌, [], arith}
use Rattle.std.specs.Prelude.{Contains}
use Rattle.std.proofs.lemmas.List.Elements.{Contains-append_left, Contains-append_right}
use Rattle.subst_language.specs.Language.Bytes.{dollar, colon, question_mark, opening_brace}

-- the text has no question mark
abbrev pub HasNoQuestionMark : List ℕ → Type 0
HasNoQuestionMark s = ¬ (Contains s question_mark)

-- a prefix of a text without a question mark has none
pub no_mark_in_prefix : (x y : List ℕ) → HasNoQuestionMark (x ++ y) → HasNoQuestionMark x
no_mark_in_prefix x y none marked = none (Contains-append_left x y question_mark marked)

-- the rest of a text without a question mark has none
pub no_mark_in_rest : (x y : List ℕ) → HasNoQuestionMark (x ++ y) → HasNoQuestionMark y
no_mark_in_rest x y none marked = none (Contains-append_right x y question_mark marked)

-- the first byte of a text without a question mark is none
pub no_mark_first : (b : ℕ) (x : List ℕ) → HasNoQuestionMark (b ∷ x) → b ≢ question_mark
no_mark_first b x none is = none (0, omega arith, is)

-- in a text without a question mark there is none after a name in braces
pub no_mark_after_name : (n x : List ℕ) → HasNoQuestionMark (dollar ∷ opening_brace ∷ n ++ x)
    → HasNoQuestionMark x
no_mark_after_name n x = no_mark_in_rest (dollar ∷ opening_brace ∷ n) x

-- in a text without a question mark there is none in a default
pub no_mark_in_default : (n w x : List ℕ)
    → HasNoQuestionMark (dollar ∷ opening_brace ∷ n ++ (colon ∷ w ++ x)) → HasNoQuestionMark w
no_mark_in_default n w x none =
    no_mark_in_prefix w x (no_mark_in_rest (colon ∷ []) (w ++ x) (no_mark_after_name n (colon ∷ w ++ x) none))
