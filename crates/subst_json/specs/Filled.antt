-- JSON texts with their strings filled in directly in the text.
use Rattle.std.specs.Prelude.{◌≡◌, ℕ, nat_le, ◌==◌, Bool, not, ◌&&◌, List, [], ◌∷◌, ◌++◌, Some}
use Rattle.json.specs.Lex.{tokens}
use Rattle.json.specs.Token.{Token, begin_object, end_object, begin_array, end_array, key, string, number, boolean, null, bad}
use Rattle.serde_json.specs.Data.{Num}
use Rattle.serde_json.specs.Read.{number_of}
use Rattle.subst_document.specs.Edits.{IsFilledText}
use Rattle.subst_json.specs.Places.{HasQuotes, IsTokenOf}

-- a list of the token's string, or the empty list for a token that isn't a string, such as a key
abbrev pub strings_of_token : Token → List (List ℕ)
strings_of_token (string s) = s ∷ []
strings_of_token begin_object = []
strings_of_token end_object = []
strings_of_token begin_array = []
strings_of_token end_array = []
strings_of_token (key s) = []
strings_of_token (number s) = []
strings_of_token (boolean b) = []
strings_of_token null = []
strings_of_token bad = []

-- the strings among these tokens, in order
abbrev pub strings_in : List Token → List (List ℕ)
strings_in [] = []
strings_in (t ∷ ts) = strings_of_token t ++ strings_in ts

-- the token spells this string, between quotes
abbrev pub IsStringToken : List ℕ → List ℕ → Type 0
IsStringToken token x = HasQuotes token × IsTokenOf token x

-- a byte that needs no escape in a string
abbrev pub is_plain : ℕ → Bool
is_plain b = nat_le 32 b && not (b == 34) && not (b == 92)

-- a piece of a token, put between quotes, is read as this part of the token's string
abbrev pub IsPartOf : List ℕ → List ℕ → List ℕ → Type 0
IsPartOf token piece part = IsTokenOf (34 ∷ piece ++ 34 ∷ []) part

-- The output is the source with its string values filled in directly in the text, in order. A string's token
-- can spell every new value, with escapes.
abbrev pub IsFilledJson : (List ℕ → List ℕ → Type 0) → List ℕ → List ℕ → Type 0
IsFilledJson Becomes source output =
    IsFilledText IsStringToken IsPartOf (λ _ _. Unit {0}) Becomes (strings_in (tokens source)) source output

-- The second token is the first one, filled in. A string becomes a string that `Becomes` relates to it. Any
-- other token stays the same, but `bad` has no filled-in token. A number is in the reader's range.
abbrev pub IsFilledToken : (List ℕ → List ℕ → Type 0) → Token → Token → Type 0
IsFilledToken Becomes (string s) u = (x : List ℕ) × (u ≡ string x) × Becomes s x
IsFilledToken Becomes (number s) u = (u ≡ number s) × (n : Num) × (number_of s ≡ Some n)
IsFilledToken Becomes begin_object u = u ≡ begin_object
IsFilledToken Becomes end_object u = u ≡ end_object
IsFilledToken Becomes begin_array u = u ≡ begin_array
IsFilledToken Becomes end_array u = u ≡ end_array
IsFilledToken Becomes (key s) u = u ≡ key s
IsFilledToken Becomes (boolean b) u = u ≡ boolean b
IsFilledToken Becomes null u = u ≡ null
IsFilledToken Becomes bad u = ⊥

-- the second list of tokens is the first one, filled in
abbrev pub AreFilled : (List ℕ → List ℕ → Type 0) → List Token → List Token → Type 0
AreFilled Becomes [] us = us ≡ []
AreFilled Becomes (t ∷ ts) us = (u : Token) × (more : List Token) × (us ≡ u ∷ more)
    × IsFilledToken Becomes t u × AreFilled Becomes ts more
