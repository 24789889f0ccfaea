-- Terms in which the laws of the definitions are stated.
use Rattle.std.specs.Prelude.{◌≡◌, ◌⊎◌, ℕ, ◌+◌, ◌<◌, List, [], ◌∷◌, ◌++◌, length, Some, None}
use Rattle.subst_error.specs.Fault.{Fault, InvalidEscapeSequence, MissingVariableName, UnexpectedCharacter, MissingClosingBrace, NoSuchVariable}
use Rattle.subst_language.specs.Language.Bytes.{dollar, opening_brace}
use Rattle.subst_language.specs.Language.Tree.{Tree}
use Rattle.subst_language.specs.Language.Sentence.{Spells, IsSentence}
use Rattle.subst_language.specs.Language.BadItem.{HasFault}

-- either s is a sentence with exactly one tree, or s, beginning at any position p, has exactly one fault;
-- never both
pub record OneTreeOrOneFault (s : List ℕ) : Type 0 where
  pub either : ((t : Tree) × Spells t s) ⊎ ((p : ℕ) → (f : Fault) × HasFault p s f)
  pub tree_unique : (t u : Tree) → Spells t s → Spells u s → t ≡ u
  pub fault_unique : (p : ℕ) (f g : Fault) → HasFault p s f → HasFault p s g → f ≡ g
  pub never_both : (t : Tree) (p : ℕ) (f : Fault) → Spells t s → ¬ (HasFault p s f)

-- the text s at position p consists of a sentence, then `${` with the brace at `position`, then any bytes
pub record OpensAt (p : ℕ) (s : List ℕ) (position : ℕ) : Type 0 where
  pub before : List ℕ
  pub after : List ℕ
  pub sentence : IsSentence before
  pub parts : s ≡ before ++ dollar ∷ opening_brace ∷ after
  pub brace : position ≡ p + length before + 1

-- the fault of a text that ends at position `end` remains, whatever is appended to the text
abbrev pub IsSettled : (end : ℕ) → Fault → Type 0
IsSettled end (InvalidEscapeSequence position (Some character)) = Unit {0}
IsSettled end (InvalidEscapeSequence position None) = ⊥
IsSettled end (MissingVariableName position len) = position + len < end
IsSettled end (UnexpectedCharacter position character expected) = Unit {0}
IsSettled end (MissingClosingBrace position) = ⊥
IsSettled end (NoSuchVariable position name) = ⊥

-- the first list is the second with zero or more of its elements left out
pub data IsSublist {X : Type 0} : List X → List X → Type 0 where
  nothing : IsSublist [] []
  kept : {x : X} {xs ys : List X} → IsSublist xs ys → IsSublist (x ∷ xs) (x ∷ ys)
  left_out : {x : X} {xs ys : List X} → IsSublist xs ys → IsSublist xs (x ∷ ys)
