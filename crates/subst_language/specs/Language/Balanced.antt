-- Texts whose unescaped braces match.
use Rattle.std.specs.Prelude.{◌≡◌, ◌≢◌, ℕ, List, [], ◌∷◌, ◌++◌}
use Rattle.subst_language.specs.Language.Bytes.{backslash, opening_brace, closing_brace}

-- A balanced text is empty, or has one of three beginnings and then a balanced text. The beginnings are a
-- byte that is no backslash and no brace; a backslash and any byte; and a balanced text in braces.
pub data IsBalanced : List ℕ → Type 0 where
  empty : IsBalanced []
  byte : {b : ℕ} {x : List ℕ} → b ≢ backslash → b ≢ opening_brace → b ≢ closing_brace → IsBalanced x
      → IsBalanced (b ∷ x)
  escape : {b : ℕ} {x : List ℕ} → IsBalanced x → IsBalanced (backslash ∷ b ∷ x)
  braces : {x y : List ℕ} → IsBalanced x → IsBalanced y → IsBalanced (opening_brace ∷ x ++ closing_brace ∷ y)

-- the text w begins with a balanced text and a closing brace
abbrev pub Closes : List ℕ → Type 0
Closes w = (x y : List ℕ) × IsBalanced x × (w ≡ x ++ closing_brace ∷ y)
