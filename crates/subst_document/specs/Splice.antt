-- New tokens of changed strings, with only the placeholders rewritten.
use Rattle.std.specs.Prelude.{◌≡◌, ◌⊎◌, ℕ, ◌==◌, not, List, [], ◌∷◌, ◌++◌, filter}
use Rattle.std.specs.List.{flat_map, AllByRecursion}
use Rattle.subst_language.specs.Language.Balanced.{IsBalanced}
use Rattle.subst_language.specs.Language.Bytes.{backslash, dollar, opening_brace, closing_brace}
use Rattle.subst_language.specs.Language.Name.{IsName}

-- the text without its backslashes
abbrev pub bare : List ℕ → List ℕ
bare = filter (λ b. not (b == backslash))

-- One placeholder or escape as written: a backslash with one byte, two dollars, a dollar with a name, or a
-- dollar with matching braces. In the case `braces`, a backslash escapes a brace; in the case `bare_braces`,
-- it doesn't.
pub data IsPlaceholder : List ℕ → Type 0 where
  escape : (b : ℕ) → IsPlaceholder (backslash ∷ b ∷ [])
  dollars : IsPlaceholder (dollar ∷ dollar ∷ [])
  name : (n : List ℕ) → IsName n → IsPlaceholder (dollar ∷ n)
  braces : (x : List ℕ) → IsBalanced x → IsPlaceholder (dollar ∷ opening_brace ∷ x ++ closing_brace ∷ [])
  bare_braces : (x : List ℕ) → IsBalanced (bare x)
      → IsPlaceholder (dollar ∷ opening_brace ∷ x ++ closing_brace ∷ [])

-- a piece of a string, its spelling in the string's token, and its spelling in the new token
pub record Piece : Type 0 where
  pub text : List ℕ
  pub before : List ℕ
  pub after : List ℕ

-- `before` is the piece's `text`, or is read as this text, as `IsPart` states. Unless the piece is a
-- placeholder, `after` equals `before`.
pub record IsPiece (IsPart : List ℕ → List ℕ → Type 0) (piece : Piece) : Type 0 where
  pub spells : (piece.before ≡ piece.text) ⊎ IsPart piece.before piece.text
  pub stays : (piece.after ≡ piece.before) ⊎ IsPlaceholder piece.text

-- the texts of these pieces, concatenated; `befores` concatenates their spellings in the old token, and
-- `afters` those in the new token
abbrev pub texts : List Piece → List ℕ
texts = flat_map (λ piece. piece.text)

abbrev pub befores : List Piece → List ℕ
befores = flat_map (λ piece. piece.before)

abbrev pub afters : List Piece → List ℕ
afters = flat_map (λ piece. piece.after)

-- `new` differs from `token`, a token of the string `text`, only in the spelling of placeholders. All other
-- bytes stay, and so do the quotes.
pub record IsSpliced (IsPart : List ℕ → List ℕ → Type 0) (text token new : List ℕ) : Type 0 where
  pub opening : List ℕ
  pub closing : List ℕ
  pub pieces : List Piece
  pub each : AllByRecursion (IsPiece IsPart) pieces
  pub text_is : text ≡ texts pieces
  pub token_is : token ≡ opening ++ (befores pieces ++ closing)
  pub new_is : new ≡ opening ++ (afters pieces ++ closing)

-- The bytes `before` spell `text`, piece by piece. `new` is `old` and then the new spellings of these pieces.
pub record AppendsPieces (IsPart : List ℕ → List ℕ → Type 0) (text before old new : List ℕ) : Type 0 where
  pub pieces : List Piece
  pub each : AllByRecursion (IsPiece IsPart) pieces
  pub text_is : text ≡ texts pieces
  pub before_is : before ≡ befores pieces
  pub new_is : new ≡ old ++ afters pieces

-- `AppendsPieces` holds of the part of `text` before `text_rest` and the part of `token` before `token_rest`
pub record AppendsUpTo (IsPart : List ℕ → List ℕ → Type 0) (text text_rest token token_rest old new : List ℕ)
    : Type 0 where
  pub passed : List ℕ
  pub before : List ℕ
  pub text_is : text ≡ passed ++ text_rest
  pub token_is : token ≡ before ++ token_rest
  pub appends : AppendsPieces IsPart passed before old new

-- a part of a string, and the output of the part alone
pub record Part : Type 0 where
  pub text : List ℕ
  pub output : List ℕ

-- `text` up to `rest` is made of parts. `new` is `old` and then the outputs of these parts.
pub record AreParts (Becomes : List ℕ → List ℕ → Type 0) (text rest old new : List ℕ) : Type 0 where
  pub parts : List Part
  pub each : AllByRecursion (λ part. Becomes part.text part.output) parts
  pub text_is : text ≡ flat_map (λ part. part.text) parts ++ rest
  pub new_is : new ≡ old ++ flat_map (λ part. part.output) parts

-- `text` splits into parts that each have an output, but `value` isn't these outputs, concatenated
abbrev pub IsMoreThanParts : (List ℕ → List ℕ → Type 0) → (text value : List ℕ) → Type 0
IsMoreThanParts Becomes text value =
    (parts : List Part) × AllByRecursion (λ part. Becomes part.text part.output) parts
    × (text ≡ flat_map (λ part. part.text) parts) × ¬ (value ≡ flat_map (λ part. part.output) parts)

-- the string `text` has a placeholder with a value that the kind of the string's token can't spell
abbrev pub DoesntFit : (Fits : List ℕ → Type 0) → (Becomes : List ℕ → List ℕ → Type 0) → (text : List ℕ) → Type 0
DoesntFit Fits Becomes text =
    (before placeholder after value : List ℕ) × (text ≡ before ++ (placeholder ++ after))
    × IsPlaceholder placeholder × Becomes placeholder value × ¬ (Fits value)

-- `new` replaces `token`, a token of the string `text`, and `value` is the string's new value. Only
-- placeholders are rewritten, unless the kind of `token` can't spell some placeholder's value, or `value`
-- isn't the concatenation of the outputs of `text`'s parts.
abbrev pub IsRespelled : (IsPart : List ℕ → List ℕ → List ℕ → Type 0) → (Fits : List ℕ → List ℕ → Type 0)
    → (Becomes : List ℕ → List ℕ → Type 0) → (text value token new : List ℕ) → Type 0
IsRespelled IsPart Fits Becomes text value token new =
    IsSpliced (IsPart token) text token new
    ⊎ (DoesntFit (Fits token) Becomes text ⊎ IsMoreThanParts Becomes text value)
