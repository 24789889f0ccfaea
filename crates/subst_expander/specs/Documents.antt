-- Documents: the spans and paths of their strings, and the faults of refused strings.
use Rattle.std.specs.Prelude.{◌≡◌, ◌⊎◌, ◌≤◌, ◌++◌, ⊤, ℕ, List, [], ◌∷◌, IfSome, Option, String, length, map, slice_range, string_bytes, zip}
use Rattle.std.specs.Global.{Global}
use Rattle.std.specs.List.{All, AllZip, Contains}
use Rattle.std.specs.declared.ops.Range.{Range}
use Rattle.json.specs.Lex.{tokens}
use Rattle.subst.specs.Fault as library
use Rattle.subst.specs.Json.Filled.{strings_in, IsStringToken}
use Rattle.subst.specs.Json.Listed.{located, located_in}
use Rattle.subst.specs.Json.Outcome as json
use Rattle.subst.specs.Json.Pieces as json_pieces
use Rattle.subst.specs.Json.Pointer.{pointer_text}
use Rattle.subst.specs.Range.{IsRangeIn}
use Rattle.subst.specs.Toml.DottedKey.{dotted_text}
use Rattle.subst.specs.Toml.Filled.{IsQuotedToken}
use Rattle.subst.specs.Toml.Mapped.{strings}
use Rattle.subst.specs.Toml.Outcome as toml
use Rattle.subst.specs.Toml.Paths as toml_paths
use Rattle.subst.specs.Toml.Pieces as toml_pieces
use Rattle.subst.specs.Toml.Places.{IsPlaceIn}
use Rattle.subst.specs.Yaml.Filled.{strings_in as yaml_strings}
use Rattle.subst.specs.Yaml.Listed as yaml_listed
use Rattle.subst.specs.Yaml.Outcome as yaml
use Rattle.subst.specs.Yaml.Paths as yaml_paths
use Rattle.subst.specs.Yaml.Places as yaml_places
use Rattle.subst_language.specs.Language.Several.{RefusesFirst}
use Rattle.subst_document.specs.Edits.{text_at}
use Rattle.subst_document.specs.Paths.{PathStep}
use Rattle.subst_document.specs.declared.edits.StringAt.{StringAt}
use Rattle.subst_document.specs.declared.edits.RefusalAt.{RefusalAt}
use Rattle.subst_expander.specs.Faults.{AreFaultsOrNone}
use Rattle.subst_expander.specs.Layers.{Entry}
use Rattle.subst_expander.specs.Strings.{AnswersBy}
use Rattle.subst_expander.specs.ValuesFaults.{HasOne}
use Rattle.subst_expander.specs.declared.document.filler.StringFiller.{StringFiller}
use Rattle.subst_expander.specs.declared.document.format.Finder.{Finder}
use Rattle.subst_expander.specs.declared.document.format.Finder.TheVariants as finders
use Rattle.subst_expander.specs.declared.document.format.Format.{Format}
use Rattle.subst_expander.specs.declared.document.format.Format.TheVariants.{Json, Toml, Yaml}
use Rattle.subst_expander.specs.declared.document.format.Unfilled.{Unfilled}
use Rattle.subst_expander.specs.declared.document.format.Unfilled.TheVariants.{Unread, Refused}
use Rattle.subst_expander.specs.declared.fault.Cause.{Cause}
use Rattle.subst_expander.specs.declared.fault.Cause.TheVariants.{Mistake, NotADocument, NotConfirmed}
use Rattle.subst_expander.specs.declared.fault.Fault.{Fault}
use Rattle.subst_expander.specs.declared.kinds.Placeholders.{Placeholders}

-- the text isn't a document of the format
abbrev pub IsNoDocument : Format → List ℕ → Type 0
IsNoDocument Json text = ¬ (json.ReadsAsTree text (λ _. ⊤))
IsNoDocument Toml text = ¬ (toml.ReadsAsTree text (λ _. ⊤))
IsNoDocument Yaml text = ¬ (yaml.ReadsAs text (λ _. ⊤))

-- either the cause is that a text isn't a document, and `IsNone` holds, or the cause is `NotConfirmed`
abbrev pub IsUnread : Type 0 → Cause → Type 0
IsUnread IsNone (Mistake mistake) = IsNone
IsUnread IsNone (NotADocument message) = IsNone
IsUnread IsNone NotConfirmed = ⊤
IsUnread IsNone _ = ⊥

-- the reason why a text isn't filled in: the text isn't a document, and `IsNone` holds; the output isn't
-- confirmed; or a string is refused, and `IsRefused` holds
abbrev pub IsUnfilled : Type 0 → Type 0 → Unfilled → Type 0
IsUnfilled IsNone IsRefused (Unread range cause) = IsUnread IsNone cause
IsUnfilled IsNone IsRefused Refused = IsRefused

-- `text` is a document of the format, and `filler` refuses one of its strings
abbrev pub RefusesString : Format → StringFiller → List ℕ → Type 0
RefusesString Json filler text = (f : library.Fault)
    × json.ReadsAsTree text (λ _. RefusesFirst (AnswersBy filler) (strings_in (tokens text)) f)
RefusesString Toml filler text =
    (f : library.Fault) × toml.ReadsAsTree text (λ d. RefusesFirst (AnswersBy filler) (strings d) f)
RefusesString Yaml filler text = (f : library.Fault)
    × yaml.ReadsAs text (λ es. RefusesFirst (AnswersBy filler) (yaml_strings text es) f)

-- the first list of bytes spells the string in the second list; the first list is a token of the format, or
-- in YAML a scalar
abbrev pub IsToken : Format → List ℕ → List ℕ → Type 0
IsToken Json = IsStringToken
IsToken Toml = IsQuotedToken
IsToken Yaml = yaml_listed.IsValueToken

-- the span is within the text; in JSON and TOML it doesn't split a character
abbrev pub IsSpanIn : Format → List ℕ → Range ℕ → Type 0
IsSpanIn Json text span = IsRangeIn text span
IsSpanIn Toml text span = IsRangeIn text span
IsSpanIn Yaml text span = span.end ≤ length text

-- the type of a path to a string; a path in YAML has the number of the document
abbrev pub PathOf : Format → Type 0
PathOf Json = List PathStep
PathOf Toml = List PathStep
PathOf Yaml = yaml_paths.Path

-- the text of a path
abbrev pub path_text : (format : Format) → PathOf format → List ℕ
path_text Json path = pointer_text path
path_text Toml path = dotted_text path
path_text Yaml path = yaml_paths.path_text path

-- the path leads to the string `s` in the document `text`
abbrev pub Leads : (format : Format) → List ℕ → PathOf format → List ℕ → Type 0
Leads Json text path s = Contains (located_in [] (tokens text)) (located path s)
Leads Toml text path s = toml.ReadsAsTree text (λ d. toml_paths.Leads path d s)
Leads Yaml text path s = yaml_listed.Leads text path s

-- The document `text` has the string `it`: the token at the string's span spells the string, and a path with
-- the text `written` leads to the string.
pub record IsStringIn (format : Format) (text written : List ℕ) (it : StringAt) : Type 0 where
  pub within : IsSpanIn format text it.span
  pub forwards : it.span.start ≤ it.span.end
  pub token : IsToken format (slice_range text it.span.start it.span.end) (text_at it)
  pub path : PathOf format
  pub leads : Leads format text path (text_at it)
  pub is_written : written ≡ path_text format path

-- the document `text` has the string, with the text of the string's path
abbrev pub IsKeptIn : Format → (text : List ℕ) → String Global × StringAt → Type 0
IsKeptIn format text it = IsStringIn format text (string_bytes it.0) it.1

-- the text and the span of a refused string
abbrev pub without_path : {Path : Type 0} → RefusalAt Path → StringAt
without_path it = record { text = it.text; span = it.span }

-- the refusal `it` is kept as the pair of `path` and `kept`: `kept` is the refused string with its span; if
-- `display` returns a text for the refusal's path, `path` is that text
abbrev pub IsKept : {Path : Type 0} → (Path → Option (List ℕ)) → RefusalAt Path → String Global × StringAt
    → Type 0
IsKept display it (path, kept) =
    IfSome (display it.path) (λ text. string_bytes path ≡ text) × (kept ≡ without_path it)

-- `places` are the spans in `text` that spell `ranges` of a string, as the library finds them; `token` is the
-- span of the string's token
abbrev pub AreFound : Format → List ℕ → Range ℕ → List (Range ℕ) → List (Range ℕ) → Type 0
AreFound Json text token ranges places = json_pieces.ArePlacesIn text token ranges places
AreFound Toml text token ranges places = toml_pieces.ArePlacesIn text token ranges places
    ⊎ ((range : Range ℕ) × (place : Range ℕ) × (ranges ≡ range ∷ []) × (places ≡ place ∷ [])
    × IsPlaceIn text token range place)
AreFound Yaml text token ranges places = yaml_places.ArePlacesIn text token ranges places

-- `places` are the spans in `text` that spell `ranges` of a string: those that the library finds, or the
-- token's span `token` for each range
abbrev pub ArePlaces : Format → List ℕ → Range ℕ → List (Range ℕ) → List (Range ℕ) → Type 0
ArePlaces format text token ranges places =
    AreFound format text token ranges places ⊎ (places ≡ map (λ _. token) ranges)

-- the format of the documents that the finder is for
abbrev pub format_of : Finder → Format
format_of (finders.Json finder) = Json
format_of finders.Toml = Toml
format_of (finders.Yaml finder) = Yaml

-- the finder can be used for the document `text`: it is for JSON or TOML, or it is for YAML and was created
-- for `text`
abbrev pub FindsIn : List ℕ → Finder → Type 0
FindsIn text (finders.Json finder) = ⊤
FindsIn text finders.Toml = ⊤
FindsIn text (finders.Yaml finder) = yaml_places.IsFinderOf finder text

-- the ranges of faults
abbrev pub ranges_of : List Fault → List (Range ℕ)
ranges_of faults = map (λ it. it.range) faults

-- `it` is the fault `x` of a string, with the string's path `path`, and with the fault's span `place` in the
-- document
abbrev pub IsReported : List ℕ → Fault × Range ℕ → Fault → Type 0
IsReported path (x, place) it = (string_bytes it.path ≡ path) × (it.range ≡ place) × (it.cause ≡ x.cause)

-- `reported` are the `faults` of the string whose token is at `token`, each with the string's path and with
-- the fault's span in `text`
abbrev pub AreReported : Format → (text : List ℕ) → (path : List ℕ) → Range ℕ → List Fault → List Fault → Type 0
AreReported format text path token faults reported = (places : List (Range ℕ))
    × ArePlaces format text token (ranges_of faults) places × AllZip (IsReported path) (zip faults places) reported

-- `faults` are those of `strings`, in order: of each string its faults in some order, or none if it has an
-- output. Each has the string's path, and its span in the document `text`.
abbrev pub AreFaultsOfStrings : Format → Placeholders → List Entry → (text : List ℕ)
    → (strings : List (String Global × StringAt)) → (faults : List Fault) → Type 0
AreFaultsOfStrings format placeholders entries text [] faults = faults ≡ []
AreFaultsOfStrings format placeholders entries text (one ∷ strings) faults =
    (list : List Fault) × (reported : List Fault) × (more : List Fault)
    × AreFaultsOrNone placeholders entries (text_at one.1) list
    × AreReported format text (string_bytes one.0) one.1.span list reported
    × AreFaultsOfStrings format placeholders entries text strings more × (faults ≡ reported ++ more)

-- the only fault is that `text` isn't a document, or that the output isn't confirmed
abbrev pub IsOnlyUnread : Format → (text : List ℕ) → (faults : List Fault) → Type 0
IsOnlyUnread format text faults = HasOne (λ it. IsUnread (IsNoDocument format text) it.cause) faults

-- `faults` are those of the document `text`, at least one: the only one, or those of some of its strings
abbrev pub AreDocumentFaults : Format → Placeholders → List Entry → (text : List ℕ) → (faults : List Fault)
    → Type 0
AreDocumentFaults format placeholders entries text faults = IsOnlyUnread format text faults
    ⊎ ((strings : List (String Global × StringAt)) × All (IsKeptIn format text) strings
    × AreFaultsOfStrings format placeholders entries text strings faults × (¬ (faults ≡ [])))
