-- Texts of some format, with their strings filled in. `IsToken` holds of a part of a text and the string that
-- this part spells. `IsPart` holds of a token, a piece of the token, and the part of the string that this
-- piece spells. `Fits` holds of a token and a value that the token's kind can spell, and `Becomes` of a
-- string and its value.
use Rattle.std.specs.Prelude.{◌≡◌, ◌⊎◌, ◌≤◌, ⊤, ℕ, List, [], ◌∷◌, ◌++◌, Option, MatchOption, map, slice_range, string_bytes}
use Rattle.subst_error.specs.Range.{IsRangeIn}
use Rattle.subst_document.specs.Splice.{IsRespelled}
use Rattle.subst_document.specs.Stays.{BecomesOther}
use Rattle.subst_document.specs.declared.edits.StringOutcome.{StringOutcome}
use Rattle.subst_document.specs.declared.edits.StringOutcome.TheVariants.{Unchanged, Changed, NotFound}
use Rattle.subst_document.specs.declared.edits.StringAt.{StringAt}

-- `changed` is the new value of the string x if it changes, or `None` if it is unchanged
abbrev pub IsChanged : (List ℕ → List ℕ → Type 0) → List ℕ → Option (List ℕ) → Type 0
IsChanged Becomes x changed = MatchOption changed (Becomes x x) (λ value. Becomes x value × ¬ (value ≡ x))

-- One edit: where `source` has a token of the string x, `output` has a token of `value`. Both texts begin
-- with the bytes `before`. After the tokens they go on with `rest` and `filled_rest`, which may differ.
pub record Edit (IsToken : List ℕ → List ℕ → Type 0) (IsPart : List ℕ → List ℕ → List ℕ → Type 0)
    (Fits : List ℕ → List ℕ → Type 0) (Becomes : List ℕ → List ℕ → Type 0)
    (x value source output : List ℕ) : Type 0 where
  pub before : List ℕ
  pub token : List ℕ
  pub new : List ℕ
  pub rest : List ℕ
  pub filled_rest : List ℕ
  pub spells : IsToken token x
  pub reads : IsToken new value
  pub respelled : IsRespelled IsPart Fits Becomes x value token new
  pub source_is : source ≡ before ++ (token ++ rest)
  pub output_is : output ≡ before ++ (new ++ filled_rest)

-- `output` is `source` with the strings of a list replaced by their values, in order. If a string changes,
-- its token is replaced by a token of its value, as `IsRespelled` states. All other bytes are the same.
abbrev pub IsFilledText : (List ℕ → List ℕ → Type 0) → (List ℕ → List ℕ → List ℕ → Type 0)
    → (List ℕ → List ℕ → Type 0) → (List ℕ → List ℕ → Type 0)
    → List (List ℕ) → (source : List ℕ) → (output : List ℕ) → Type 0
IsFilledText IsToken IsPart Fits Becomes [] source output = output ≡ source
IsFilledText IsToken IsPart Fits Becomes (x ∷ strings) source output =
    (Becomes x x × IsFilledText IsToken IsPart Fits Becomes strings source output)
    ⊎ ((value : List ℕ) × Becomes x value × (¬ (value ≡ x))
    × (edit : Edit IsToken IsPart Fits Becomes x value source output)
    × IsFilledText IsToken IsPart Fits Becomes strings edit.rest edit.filled_rest)

-- `new` is `old` followed by `appended`: the part of `text` before `rest`, with `strings` replaced by their
-- values. `appended` followed by any output of `rest` is an output of `text`.
abbrev pub IsFilledUpTo : (List ℕ → List ℕ → Type 0) → (List ℕ → List ℕ → List ℕ → Type 0)
    → (List ℕ → List ℕ → Type 0) → (List ℕ → List ℕ → Type 0)
    → List (List ℕ) → (text : List ℕ) → (rest : List ℕ) → (old : List ℕ) → (new : List ℕ) → Type 0
IsFilledUpTo IsToken IsPart Fits Becomes strings text rest old new =
    (appended : List ℕ) × (new ≡ old ++ appended) × ((more : List (List ℕ)) → (filled : List ℕ)
    → IsFilledText IsToken IsPart Fits Becomes more rest filled
    → IsFilledText IsToken IsPart Fits Becomes (strings ++ more) text (appended ++ filled))

-- The outcome for x, the next string of `text`. `Unchanged` states that x is unchanged and that `new` is
-- `old`. `Changed` states that x changes. Then `new` is `old` followed by the part of `text` before `rest`,
-- with x replaced by its value. `NotFound` states only that x changes.
abbrev pub IsStringOutcome : (List ℕ → List ℕ → Type 0) → (List ℕ → List ℕ → List ℕ → Type 0)
    → (List ℕ → List ℕ → Type 0) → (List ℕ → List ℕ → Type 0) → List ℕ
    → (text : List ℕ) → (old : List ℕ) → (new : List ℕ) → StringOutcome → Type 0
IsStringOutcome IsToken IsPart Fits Becomes x text old new Unchanged = Becomes x x × (new ≡ old)
IsStringOutcome IsToken IsPart Fits Becomes x text old new (Changed value rest) =
    Becomes x (string_bytes value) × (¬ (string_bytes value ≡ x))
    × IsFilledUpTo IsToken IsPart Fits Becomes (x ∷ []) text rest.now old new
IsStringOutcome IsToken IsPart Fits Becomes x text old new NotFound = BecomesOther Becomes x

-- Each of these strings is spelled at its span in `source`. The spans are in order, from the position `start`
-- on.
abbrev pub AreSpelled : (List ℕ → List ℕ → Type 0) → (source : List ℕ) → ℕ → List StringAt → Type 0
AreSpelled IsToken source start [] = ⊤
AreSpelled IsToken source start (it ∷ rest) =
    IsRangeIn source it.span × (start ≤ it.span.start) × (it.span.start ≤ it.span.end)
    × IsToken (slice_range source it.span.start it.span.end) (string_bytes it.text)
    × AreSpelled IsToken source it.span.end rest

-- the bytes of the string in a `StringAt`
abbrev pub text_at : StringAt → List ℕ
text_at it = string_bytes it.text

-- `new` is `old` followed by an item for each of `strings`. The spans of the items spell the strings in
-- `source`, in order, between the positions `from` and `next`. Any items that are spelled from `next` on may
-- follow.
abbrev pub AreListed : (List ℕ → List ℕ → Type 0) → (source : List ℕ) → ℕ → ℕ → List (List ℕ)
    → (old : List StringAt) → (new : List StringAt) → Type 0
AreListed IsToken source from next strings old new =
    (items : List StringAt) × (new ≡ old ++ items) × (map text_at items ≡ strings)
    × ((more : List StringAt) → AreSpelled IsToken source next more
    → AreSpelled IsToken source from (items ++ more))
