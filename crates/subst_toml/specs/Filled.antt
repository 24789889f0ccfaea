-- The string values of a TOML text, and the text with its strings filled in.
use Rattle.std.specs.Prelude.{◌≡◌, ◌≤◌, ◌⊎◌, true, ℕ, zero, suc, ◌-◌, ◌==◌, if◌then◌else◌, List, [], ◌∷◌, ◌++◌, length, take, drop, map, slice_get, Option, Some, None, option_map, option_and_then, string_bytes, IsTrue}
use Rattle.std.specs.declared.ops.Range.{Range}
use Rattle.toml_parser.specs.Lexical.{Read, left_bracket, right_bracket, left_brace, right_brace, comma, first, skip_blank}
use Rattle.toml_parser.specs.Numbers.{unquoted}
use Rattle.toml_parser.specs.Strings.{quoted, starts_string}
use Rattle.toml.specs.Data.{Data}
use Rattle.toml.specs.Parse.{after_byte, header_key, key_equals, skip_bom}
use Rattle.subst_error.specs.ErrorFault.{error_fault}
use Rattle.subst_error.specs.Fault.{Fault}
use Rattle.subst_error.specs.Range.{range_of, IsRangeIn}
use Rattle.subst_language.specs.Language.Answer.{Answer, Gives, Refuses}
use Rattle.subst_document.specs.Edits.{IsFilledText}
use Rattle.subst_document.specs.declared.edits.StringAt.{StringAt}
use Rattle.subst_document.specs.declared.edits.RefusalAt.{RefusalAt}
use Rattle.subst_toml.specs.Mapped.{IsEach}
use Rattle.subst_toml.specs.Outcome.{ReadsAsTree}
use Rattle.subst_toml.specs.Paths.{steps_of, Leads}
use Rattle.subst_toml.specs.Kinds.{fits}
use Rattle.subst_toml.specs.Pieces.{between}
use Rattle.subst_toml.specs.Places.{part_at, quotes_of, IsTokenOf}
use Rattle.subst_toml.specs.declared.document.tokens.Bracket.{Bracket}
use Rattle.subst_toml.specs.declared.document.tokens.Bracket.TheVariants.{Array, InlineTable}
use Rattle.subst_toml.specs.declared.document.tokens.Scanner as code
use Rattle.subst_toml.specs.declared.path.Path.{Path}

-- the token spells this string, and begins with a quote
abbrev pub IsQuotedToken : List ℕ → List ℕ → Type 0
IsQuotedToken token x = (starts_string token ≡ true) × IsTokenOf token x

-- a piece of a token, put between the token's quotes, is read as this part of the string
abbrev pub IsPartOf : List ℕ → List ℕ → List ℕ → Type 0
IsPartOf token piece part = IsTokenOf (between (quotes_of token) piece) part

-- the token's kind of string can spell the value
abbrev pub IsFit : List ℕ → List ℕ → Type 0
IsFit token value = IsTrue (fits token value)

-- a string value of a TOML text, and the range that spells it
pub record Spelled : Type 0 where
  pub text : List ℕ
  pub span : Range ℕ

-- the `Spelled` for a `StringAt` of the code
abbrev pub spelled_of : StringAt → Spelled
spelled_of it = record { text = string_bytes it.text; span = it.span }

-- The state of the walk through a text of `len` bytes: the open brackets, with the innermost one last; and
-- the strings found so far.
pub record Scanner : Type 0 where
  pub len : ℕ
  pub brackets : List Bracket
  pub found : List Spelled

-- the state with one more open bracket
abbrev pub opened : Bracket → Scanner → Scanner
opened bracket p = record { len = p.len; brackets = p.brackets ++ bracket ∷ []; found = p.found }

-- the state without the innermost open bracket
abbrev pub closed : Scanner → Scanner
closed p = record { len = p.len; brackets = take (length p.brackets - 1) p.brackets; found = p.found }

-- the state with one more string x, spelled from where `text` begins to where `rest` begins
abbrev pub with_string : Scanner → List ℕ → List ℕ → List ℕ → Scanner
with_string p x text rest = record {
  len = p.len;
  brackets = p.brackets;
  found = p.found ++ record {
    text = x;
    span = record { start = p.len - length text; end = p.len - length rest };
  } ∷ [];
}

-- the state and the text after a value. If the value is an array or an inline table, only its opening bracket
-- is read
abbrev pub value : Scanner → List ℕ → Read Scanner
value p text =
    if starts_string text then option_map (λ r. (with_string p r.0 text r.1, r.1)) (quoted text)
    else if first text == left_bracket then Some (opened Array p, drop 1 text)
    else if first text == left_brace then Some (opened InlineTable p, drop 1 text)
    else option_map (λ r. (p, r.1)) (unquoted text)

-- the state and the text after a key and its value. If the value is an array or an inline table, only its
-- opening bracket is read
abbrev pub pair : Scanner → List ℕ → Read Scanner
pair p text = option_and_then (λ k. value p k.1) (key_equals text)

-- the text after a header; `text` begins after the header's first bracket
abbrev pub header : List ℕ → Option (List ℕ)
header text =
    if first text == left_bracket
    then option_and_then (λ k. after_byte right_bracket k.1) (header_key (drop 1 text))
    else option_map (λ k. k.1) (header_key text)

-- The state and the text after the next part inside this innermost open bracket. With no bracket open, the
-- part is a header or a pair. Inside a bracket, it is a comma, the closing bracket, an array's item or an
-- inline table's member.
abbrev pub step_in : Option Bracket → Scanner → List ℕ → Read Scanner
step_in None p text =
    if first text == left_bracket then option_map (λ rest. (p, rest)) (header (drop 1 text)) else pair p text
step_in (Some Array) p text =
    if first text == comma then Some (p, drop 1 text)
    else if first text == right_bracket then Some (closed p, drop 1 text)
    else value p text
step_in (Some InlineTable) p text =
    if first text == comma then Some (p, drop 1 text)
    else if first text == right_brace then Some (closed p, drop 1 text)
    else pair p text

abbrev pub step : Scanner → List ℕ → Read Scanner
step p text = step_in (slice_get p.brackets (length p.brackets - 1)) p text

-- the strings found so far and the strings of `text`, if reading `text` takes fewer than n steps
unfoldable pub strings_from : ℕ → Scanner → List ℕ → Option (List Spelled)
strings_from zero p text = None
strings_from (suc n) p text =
    let start = skip_blank text in
    if length start == 0 then Some p.found
    else option_and_then (λ s. strings_from n s.0 s.1) (step p start)

-- The string values of a document, in order. Keys aren't among them.
abbrev pub strings_in : List ℕ → Option (List Spelled)
strings_in text =
    strings_from (suc (length text)) (record { len = length text; brackets = []; found = [] }) (skip_bom text)

-- a `Scanner` of the code, converted to a `Scanner` of these definitions
abbrev pub scanner_of : code.Scanner → Scanner
scanner_of p = record {
  len = p.source_len;
  brackets = p.brackets.items;
  found = map spelled_of p.found.items;
}

-- The output is the source with its strings filled in: `Becomes` relates each string to its new value.
abbrev pub IsFilledIn : (List ℕ → List ℕ → Type 0) → List ℕ → List ℕ → Type 0
IsFilledIn Becomes source output =
    (found : List Spelled) × (strings_in source ≡ Some found)
    × IsFilledText IsQuotedToken IsPartOf IsFit Becomes (map (λ it. it.text) found) source output

-- the output is the filled-in source; or it is the source itself, and `Becomes` relates each string of the
-- source's tree to itself
abbrev pub IsFilledOrSame : (List ℕ → List ℕ → Type 0) → List ℕ → List ℕ → Type 0
IsFilledOrSame Becomes source output = IsFilledIn Becomes source output
    ⊎ ((output ≡ source) × ReadsAsTree source (λ d. IsEach Becomes d d))

-- the part of the text s at this span is a token of the string x
abbrev pub IsSpelledAt : List ℕ → Range ℕ → List ℕ → Type 0
IsSpelledAt s span x = IsRangeIn s span × (span.start ≤ span.end) × IsQuotedToken (part_at s span) x

-- a refused string, with its span and its fault
pub record RefusalIn : Type 0 where
  pub text : List ℕ
  pub span : Range ℕ
  pub fault : Option Fault

-- the `RefusalIn` for a `RefusalAt` of the code, without the path
abbrev pub refusal_in : RefusalAt Path → RefusalIn
refusal_in it = record { text = string_bytes it.text; span = it.span; fault = error_fault it.error }

-- the range of the fault is within the refused string
abbrev pub HasFaultInText : RefusalIn → Type 0
HasFaultInText it = IsRangeIn it.text (range_of it.fault)

-- The refusals of those strings that are refused, in order. The others have outputs.
abbrev pub AreRefusalsIn : (List ℕ → Answer → Type 0) → List Spelled → List RefusalIn → Type 0
AreRefusalsIn ask [] refusals = refusals ≡ []
AreRefusalsIn ask (it ∷ found) refusals =
    (((x : List ℕ) × ask it.text (Gives x)) × AreRefusalsIn ask found refusals)
    ⊎ ((f : Fault) × (more : List RefusalIn) × ask it.text (Refuses f)
    × (refusals ≡ record { text = it.text; span = it.span; fault = Some f } ∷ more)
    × AreRefusalsIn ask found more)

-- the refusals are those of all refused strings of the text s
abbrev pub AreAllRefusals : (List ℕ → Answer → Type 0) → List ℕ → List RefusalIn → Type 0
AreAllRefusals ask s refusals =
    (found : List Spelled) × (strings_in s ≡ Some found) × AreRefusalsIn ask found refusals

-- the path of the refusal leads to its string in the tree d, and its span spells the string in the text s
abbrev pub IsFound : List ℕ → Data → RefusalAt Path → Type 0
IsFound s d it = Leads (steps_of it.path) d (string_bytes it.text)
    × IsSpelledAt s it.span (string_bytes it.text)
