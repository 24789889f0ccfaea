-- Strings of a text of YAML: those of the values that may change, and the refused ones, with their spans and
-- paths. `ask` relates a string to its answers.
use Rattle.std.specs.Prelude.{◌≡◌, ◌⊎◌, ◌≤◌, true, ℕ, List, [], ◌∷◌, ◌++◌, length, map, min, slice_range, Some, None, Result, Vec, IfErr, IfOk, string_bytes}
use Rattle.std.specs.Global.{Global}
use Rattle.std.specs.List.{AllByRecursion, Contains}
use Rattle.std.specs.declared.ops.Range.{Range}
use Rattle.subst_error.specs.ErrorFault.{error_fault}
use Rattle.subst_error.specs.Fault.{Fault}
use Rattle.subst_error.specs.Range.{range_of, IsRangeIn}
use Rattle.subst_language.specs.Language.Answer.{Answer, Gives, Refuses}
use Rattle.subst_document.specs.Edits.{text_at}
use Rattle.subst_document.specs.declared.edits.RefusalAt as found
use Rattle.subst_document.specs.declared.edits.StringAt.{StringAt}
use Rattle.subst_yaml_reader.specs.Reading.{read}
use Rattle.subst_yaml_reader.specs.declared.event.Event.{Event}
use Rattle.subst_yaml_reader.specs.declared.event.Event.TheVariants.{Value}
use Rattle.subst_yaml_reader.specs.declared.event.Span.{Span}
use Rattle.subst_yaml_reader.specs.declared.event.Style.{Style}
use Rattle.subst_yaml.specs.Errors.{HasOwnMemory}
use Rattle.subst_yaml.specs.Filled.{may_change, string_of, strings_in, strings_of, token_at}
use Rattle.subst_yaml.specs.Outcome.{IfYaml, IsInside, OnSubst, ReadsAs}
use Rattle.subst_yaml.specs.Paths.{after_event, path_at, path_of, start, Path, Trail}
use Rattle.subst_yaml.specs.declared.error.Error.{Error}
use Rattle.subst_yaml.specs.declared.path.Path as code

-- the range of a span, cut at the end of `text`
abbrev pub range_in : (text : List ℕ) → Span → Range ℕ
range_in text span = record {
  start = min span.start (min span.«end» (length text));
  end = min span.«end» (length text);
}

-- a string of a text, and the range of its token
pub record Spelled : Type 0 where
  pub text : List ℕ
  pub span : Range ℕ

abbrev pub spelled_of : StringAt → Spelled
spelled_of it = record { text = string_bytes it.text; span = it.span }

abbrev pub spelled_at : (text : List ℕ) → Event → List Spelled
spelled_at text (Value style span in_flow indent) =
    map (λ x. record { text = x; span = range_in text span }) (strings_of style indent (token_at text span))
spelled_at text _ = []

-- the strings of the values that may change, in the order of the events, each with the range of its token
abbrev pub spelled_in : (text : List ℕ) → List Event → List Spelled
spelled_in text [] = []
spelled_in text (e ∷ es) = spelled_at text e ++ spelled_in text es

-- a string of a text, the range of its token, and its path
pub record Found : Type 0 where
  pub text : List ℕ
  pub span : Range ℕ
  pub path : Path

abbrev pub found_at : (text : List ℕ) → Trail → Event → List Found
found_at text trail e =
    map (λ it. record { text = it.text; span = it.span; path = path_at text trail }) (spelled_at text e)

-- the strings of these events' values that may change, with their spans and paths; `trail` is the trail
-- before the first event
abbrev pub found_in : (text : List ℕ) → Trail → List Event → List Found
found_in text trail [] = []
found_in text trail (e ∷ es) = found_at text trail e ++ found_in text (after_event trail e) es

-- `token` is the token of a value that may change, and spells the string x
abbrev pub IsValueToken : (token x : List ℕ) → Type 0
IsValueToken token x =
    (style : Style) × (indent : ℕ) × (may_change style token ≡ true) × (string_of style indent token ≡ Some x)

-- `span` is the range in `source` of the token of a value that may change, and the token spells the string x
pub record IsSpelledAt (source : List ℕ) (span : Range ℕ) (x : List ℕ) : Type 0 where
  pub forwards : span.start ≤ span.end
  pub within : span.end ≤ length source
  pub token : IsValueToken (slice_range source span.start span.end) x

-- the path leads to a value of `source` that may change and whose token spells the string x
abbrev pub Leads : (source : List ℕ) → Path → (x : List ℕ) → Type 0
Leads source path x = ReadsAs source (λ es. (span : Range ℕ)
    × Contains (found_in source start es) (record { text = x; span = span; path = path }))

-- The list has all strings of the values that may change, in their order in `source`, each with the span of
-- its token.
pub record IsListing (source : List ℕ) (list : List StringAt) : Type 0 where
  pub all : ReadsAs source (λ es. map text_at list ≡ strings_in source es)
  -- each string in the list has the span of its token
  pub each : ReadsAs source (λ es. map spelled_of list ≡ spelled_in source es)
  pub spelled : AllByRecursion (λ it. IsSpelledAt source it.span (text_at it)) list

abbrev pub RefusalAt : Type 0
RefusalAt = found.RefusalAt code.Path

-- the string, the span and the path of a refusal
abbrev pub found_of : RefusalAt → Found
found_of it = record { text = string_bytes it.text; span = it.span; path = path_of it.path }

-- The refusal is for the string `it`: both have the same text, span and path. The fault of the refusal is the
-- answer to the string, and the fault's range is within the string.
pub record IsRefusalOf (ask : List ℕ → Answer → Type 0) (it : Found) (refusal : RefusalAt) : Type 0 where
  pub string : found_of refusal ≡ it
  pub fault : Fault
  pub fault_is : error_fault refusal.error ≡ Some fault
  pub refused : ask it.text (Refuses fault)
  pub range : IsRangeIn it.text (range_of (error_fault refusal.error))

-- The refusals are those of the refused strings, in order, and every other string is filled in.
abbrev pub AreRefusalsOf : (ask : List ℕ → Answer → Type 0) → List Found → List RefusalAt → Type 0
AreRefusalsOf ask [] refusals = refusals ≡ []
AreRefusalsOf ask (it ∷ rest) refusals =
    (((x : List ℕ) × ask it.text (Gives x)) × AreRefusalsOf ask rest refusals)
    ⊎ ((refusal : RefusalAt) × (more : List RefusalAt) × (refusals ≡ refusal ∷ more)
    × IsRefusalOf ask it refusal × AreRefusalsOf ask rest more)

-- The token at the span of `it` in `source` spells the refused string, and the path leads to a value with
-- this string.
pub record IsRefusedAt (source : List ℕ) (it : RefusalAt) : Type 0 where
  pub spelled : IsSpelledAt source it.span (string_bytes it.text)
  pub leads : Leads source (path_of it.path) (string_bytes it.text)
  -- the range of the fault is within the string
  pub range : IsRangeIn (string_bytes it.text) (range_of (error_fault it.error))

-- The list has all refused strings of the text, each with its span and its path.
pub record AreAllRefused (ask : List ℕ → Answer → Type 0) (source : List ℕ) (all : List RefusalAt) : Type 0 where
  -- the list has, in order, the refusal of each string that is refused; every other string can be filled in
  pub each : ReadsAs source (λ es. AreRefusalsOf ask (found_in source start es) all)
  -- each refusal has the span and the path of its string
  pub stand : AllByRecursion (IsRefusedAt source) all

-- The result of listing strings of the text `source`: `Are` holds for the list, and an error is the reader's
-- or `OutOfMemory`.
pub record Lists {T : Type 0} (Are : List T → Type 0) (source : List ℕ)
    (result : Result (Vec T Global) Error) : Type 0 where
  pub list : IfOk result (λ list. Are list.items)
  pub yaml : IfYaml result (λ _. read source ≡ None)
  pub inside : IfYaml result (λ fault. IsInside fault.span source)
  pub subst : OnSubst result (λ _. ⊥)
  -- a failure to allocate is stated by `OutOfMemory`, never by `Subst`
  pub memory : IfErr result HasOwnMemory
