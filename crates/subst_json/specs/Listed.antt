-- The refused strings of a JSON text, with their paths and spans.
use Rattle.std.specs.Prelude.{◌≡◌, ◌⊎◌, ℕ, ◌+◌, List, [], ◌∷◌, ◌++◌, Some, codes, drop, map, reverse}
use Rattle.std.specs.List.{slice_get, AllByRecursion}
use Rattle.json.specs.Lex.{tokens}
use Rattle.json.specs.Token.{Token, begin_object, end_object, begin_array, end_array, key, string, number, boolean, null, bad}
use Rattle.subst_language.specs.Language.Answer.{Answer}
use Rattle.subst_document.specs.Edits.{text_at, AreSpelled}
use Rattle.subst_document.specs.Paths.{PathStep, Key, Index, Located, Refusal, AreRefusals}
use Rattle.subst_document.specs.Plain.{with_plain}
use Rattle.subst_document.specs.Refused.{AreRefusedOf, HasRangeInText}
use Rattle.subst_document.specs.Refused as refused
use Rattle.subst_document.specs.declared.edits.StringAt.{StringAt}
use Rattle.subst_document.specs.declared.edits.RefusalAt as found
use Rattle.subst_json.specs.Filled.{strings_of_token, strings_in, IsStringToken}
use Rattle.subst_json.specs.Paths.{steps_of}
use Rattle.subst_json.specs.declared.path.Path.{Path}

-- The path to the part after a value, computed from the value's path. In an array, that part is the next
-- item. Elsewhere, the path stays the same. Here, paths have their last step first.
abbrev pub past_value : List PathStep → List PathStep
past_value [] = []
past_value (Key k ∷ path) = Key k ∷ path
past_value (Index i ∷ path) = Index (i + 1) ∷ path

-- The path to the next token, computed from a token and that token's path. In an object, the last step is the
-- latest key, or an empty key before the first key.
abbrev pub past_token : Token → List PathStep → List PathStep
past_token begin_object path = Key [] ∷ path
past_token begin_array path = Index 0 ∷ path
past_token end_object path = past_value (drop 1 path)
past_token end_array path = past_value (drop 1 path)
past_token (key k) path = Key k ∷ drop 1 path
past_token (string s) path = past_value path
past_token (number s) path = past_value path
past_token (boolean b) path = past_value path
past_token null path = past_value path
past_token bad path = past_value path

-- a string and its path
abbrev pub located : List PathStep → List ℕ → Located
located path s = record { path = path; text = s }

-- a list of the token's string with its path, or the empty list if the token isn't a string
abbrev pub located_at : List PathStep → Token → List Located
located_at path t = map (located (reverse path)) (strings_of_token t)

-- the strings among these tokens, each with its path, if `path` leads to the first token
abbrev pub located_in : List PathStep → List Token → List Located
located_in path [] = []
located_in path (t ∷ ts) = located_at path t ++ located_in (past_token t path) ts

abbrev pub RefusalAt : Type 0
RefusalAt = found.RefusalAt Path

-- a `RefusalAt` of the code, converted to a `Refusal` of the definitions
abbrev pub refusal_at : RefusalAt → Refusal
refusal_at = refused.refusal_at steps_of

-- the refused string and its span
abbrev pub string_of : RefusalAt → StringAt
string_of it = record { text = it.text; span = it.span }

-- the token itself, or `null` if it is a string
abbrev pub plain_token : Token → Token
plain_token (string s) = null
plain_token begin_object = begin_object
plain_token end_object = end_object
plain_token begin_array = begin_array
plain_token end_array = end_array
plain_token (key s) = key s
plain_token (number s) = number s
plain_token (boolean b) = boolean b
plain_token null = null
plain_token bad = bad

-- These spans are those of all strings of `source`, and of nothing else. If each span is replaced by `null`,
-- each string becomes the token `null`, and all other tokens stay.
abbrev pub AreExact : (source : List ℕ) → List StringAt → Type 0
AreExact source list =
    tokens (with_plain (λ _. codes "null") source 0 0 list) ≡ map plain_token (tokens source)

-- The list has all strings of the text, each with its span.
pub record IsListing (source : List ℕ) (list : List StringAt) : Type 0 where
  pub all : map text_at list ≡ strings_in (tokens source)
  pub spelled : AreSpelled IsStringToken source 0 list
  -- each span is that of a string, never that of a key or another token
  pub exact : AreExact source list

-- the path leads to the string with this index
abbrev pub IsPathTo : (source : List ℕ) → ℕ → Path → Type 0
IsPathTo source index path =
    slice_get (map (λ it. it.path) (located_in [] (tokens source))) index ≡ Some (steps_of path)

-- After one token, the refusals `rest` have become `left`, and the paths `paths` have become `with`.
-- `strings` has the token's string, or is empty if the token isn't a string. `index` and `steps` are the
-- string's index and path. Either nothing changes, or the first refusal in `rest` is that of the string. In
-- the second case, `left` is `rest` without this refusal, and `with` is `paths` and then the string's path.
abbrev pub IsCollected : List PathStep → List (List ℕ) → ℕ → (rest left : List (found.RefusalAt ℕ))
    → (paths with : List Path) → Type 0
IsCollected steps strings index rest left paths with =
    ((left ≡ rest) × (with ≡ paths))
    ⊎ ((x : List ℕ) × (it : found.RefusalAt ℕ) × (path : Path) × (strings ≡ x ∷ []) × (it.path ≡ index)
    × (rest ≡ it ∷ left) × (with ≡ paths ++ path ∷ []) × (steps_of path ≡ steps))

-- `all` has the refused strings of `source`, in order, each with its span and a path that leads to it. No
-- other string is refused.
abbrev pub AreRefused : (List ℕ → Answer → Type 0) → (source : List ℕ) → List RefusalAt → Type 0
AreRefused ask source all =
    (list : List StringAt) × IsListing source list × AreRefusedOf ask (IsPathTo source) 0 list all

-- The list has all refused strings of the text, each with its span.
pub record AreAllRefused (ask : List ℕ → Answer → Type 0) (source : List ℕ) (all : List RefusalAt) : Type 0 where
  -- each refusal has the span and the path of its string
  pub each : AreRefused ask source all
  -- the refusals are those of the text's strings, in order; every string that isn't refused has an output
  pub refused : AreRefusals ask (located_in [] (tokens source)) (map refusal_at all)
  pub spelled : AreSpelled IsStringToken source 0 (map string_of all)
  pub range : AllByRecursion HasRangeInText (map refusal_at all)
