-- The fault of a source that is no sentence: its first bad item.
use Rattle.std.specs.Prelude.{◌≢◌, ℕ, ◌+◌, List, [], ◌∷◌, ◌++◌, length, Some, None, codes}
use Rattle.subst_error.specs.Fault.{Fault, InvalidEscapeSequence, MissingVariableName, UnexpectedCharacter, MissingClosingBrace}
use Rattle.subst_error.specs.declared.CharOrByte.{CharOrByte}
use Rattle.subst_language.specs.Language.Bytes.{dollar, colon, question_mark, backslash, opening_brace, closing_brace, IsEscapable}
use Rattle.subst_language.specs.Language.Name.{IsName, IsNameByte}
use Rattle.subst_language.specs.Language.Character.{IsFrontCharacter}
use Rattle.subst_language.specs.Language.Tree.{Tree, text}
use Rattle.subst_language.specs.Language.Balanced.{IsBalanced, Closes}
use Rattle.subst_language.specs.Language.WellFormed.{IsWellFormed}

-- the message that names the bytes which may follow `${name`
abbrev pub after_name : List ℕ
after_name = codes "a closing brace ('}'), colon (':') or question mark ('?')"

-- the message that names the byte which may follow `${name?`
abbrev pub after_question_mark : List ℕ
after_question_mark = codes "a closing brace ('}')"

mutual
  -- the text r at position p begins with a bad item, whose fault is f
  pub data IsBad : (p : ℕ) → (r : List ℕ) → (f : Fault) → Type 0 where
    -- a backslash at the end
    escape_at_end : {p : ℕ} → IsBad p (backslash ∷ []) (InvalidEscapeSequence p None)
    -- a backslash before a byte that can't be escaped
    escape : {p b : ℕ} {x : List ℕ} {c : CharOrByte} → ¬ (IsEscapable b) → IsFrontCharacter (b ∷ x) c
        → IsBad p (backslash ∷ b ∷ x) (InvalidEscapeSequence p (Some c))
    -- a dollar at the end
    dollar_at_end : {p : ℕ} → IsBad p (dollar ∷ []) (MissingVariableName p 1)
    -- a dollar before a byte that is neither an opening brace nor a name byte
    dollar_alone : {p b : ℕ} {x : List ℕ} → b ≢ opening_brace → ¬ (IsNameByte b)
        → IsBad p (dollar ∷ b ∷ x) (MissingVariableName p 1)
    -- `${` at the end
    brace_at_end : {p : ℕ} → IsBad p (dollar ∷ opening_brace ∷ []) (MissingVariableName p 2)
    -- `${` before a byte that is no name byte
    brace_alone : {p b : ℕ} {x : List ℕ} → ¬ (IsNameByte b)
        → IsBad p (dollar ∷ opening_brace ∷ b ∷ x) (MissingVariableName p 2)
    -- `${name` at the end
    name_at_end : {p : ℕ} (n : List ℕ) → IsName n
        → IsBad p (dollar ∷ opening_brace ∷ n) (MissingClosingBrace (p + 1))
    -- `${name` before a byte that is no name byte, no closing brace, no colon and no question mark
    name_alone : {p b : ℕ} {c : CharOrByte} (n x : List ℕ) → IsName n → ¬ (IsNameByte b)
        → b ≢ closing_brace → b ≢ colon → b ≢ question_mark → IsFrontCharacter (b ∷ x) c
        → IsBad p (dollar ∷ opening_brace ∷ n ++ b ∷ x)
        (UnexpectedCharacter (p + 2 + length n) c after_name)
    -- `${name?` at the end
    optional_at_end : {p : ℕ} (n : List ℕ) → IsName n
        → IsBad p (dollar ∷ opening_brace ∷ n ++ question_mark ∷ []) (MissingClosingBrace (p + 1))
    -- `${name?` before a byte that is no closing brace
    optional_alone : {p b : ℕ} {c : CharOrByte} (n x : List ℕ) → IsName n
        → b ≢ closing_brace → IsFrontCharacter (b ∷ x) c
        → IsBad p (dollar ∷ opening_brace ∷ n ++ (question_mark ∷ b ∷ x))
        (UnexpectedCharacter (p + 3 + length n) c after_question_mark)
    -- `${name:` whose default is never closed
    unclosed : {p : ℕ} (n w : List ℕ) → IsName n → ¬ (Closes w)
        → IsBad p (dollar ∷ opening_brace ∷ n ++ colon ∷ w) (MissingClosingBrace (p + 1))
    -- `${name:default}` and then any bytes, with a fault in the default
    inside : {p : ℕ} {f : Fault} (n w v : List ℕ) → IsName n → IsBalanced w → HasFault (p + 3 + length n) w f
        → IsBad p (dollar ∷ opening_brace ∷ n ++ (colon ∷ w ++ closing_brace ∷ v)) f

  -- The text s at position p has the fault f: in s, a bad item with this fault follows the text of a
  -- well-formed tree. `IsBad` refers to `HasFault` only for a default, which is shorter than its item.
  pub data HasFault : (p : ℕ) → (s : List ℕ) → (f : Fault) → Type 0 where
    fault_after : {p : ℕ} {r : List ℕ} {f : Fault} (t : Tree) → IsWellFormed t
        → IsBad (p + length (text t)) r f → HasFault p (text t ++ r) f
