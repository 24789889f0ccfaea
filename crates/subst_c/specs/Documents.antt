-- Documents, and the results and faults that calls from C report for them.
use Rattle.std.specs.Prelude.{◌≡◌, ⊤, ◌⊎◌, ℕ, List, [], ◌∷◌, ◌++◌, Some, None, Result, Ok, Err, String, codes, slice_range, string_bytes}
use Rattle.std.specs.Global.{Global}
use Rattle.std.specs.Str.{IsCharBoundary}
use Rattle.std.specs.declared.ops.Range.{Range}
use Rattle.json.specs.Lex.{tokens}
use Rattle.serde_json.specs.Read.{read}
use Rattle.toml.specs.Parse.{parse_document}
use Rattle.subst_error.specs.Display.{IsDisplayOfFault}
use Rattle.subst_error.specs.ErrorFault.{error_fault}
use Rattle.subst_error.specs.Fault.{Fault}
use Rattle.subst_error.specs.Range.{range_at, range_of}
use Rattle.subst_language.specs.Language.LookUp.{LookUp}
use Rattle.subst_language.specs.Language.Several.{GivesBy, under}
use Rattle.subst_document.specs.Paths.{AreRefusals, PathStep, Refusal}
use Rattle.subst_json.specs.Filled as json
use Rattle.subst_json.specs.InPlace as json_in_place
use Rattle.subst_json.specs.Listed as json_listed
use Rattle.subst_json.specs.Places as json_places
use Rattle.subst_json.specs.Pointer.{pointer_text}
use Rattle.subst_toml.specs.DottedKey.{dotted_text}
use Rattle.subst_toml.specs.Filled as toml
use Rattle.subst_toml.specs.InPlace as toml_in_place
use Rattle.subst_toml.specs.Outcome as toml_outcome
use Rattle.subst_toml.specs.Paths as toml_paths
use Rattle.subst_toml.specs.Places as toml_places
use Rattle.subst_yaml_reader.specs.Reading as yaml_reading
use Rattle.subst_yaml.specs.InPlace as yaml_in_place
use Rattle.subst_yaml.specs.Listed as yaml_listed
use Rattle.subst_yaml.specs.Paths as yaml_paths
use Rattle.subst_yaml.specs.Places as yaml_places
use Rattle.subst_c.specs.Fault.{LiesIn, fault_number}
use Rattle.subst_c.specs.declared.fault.FaultRecord.{FaultRecord}
use Rattle.subst_c.specs.declared.document.Report.{Report}
use Rattle.subst_c.specs.declared.document.Unfilled.{Unfilled}
use Rattle.subst_c.specs.declared.document.Unfilled.TheVariants as unfilled

-- a format of documents
pub data Format : Type 0 where
  Json : Format
  Toml : Format
  Yaml : Format

-- the text is no document of the format
abbrev pub IsNoDocument : Format → List ℕ → Type 0
IsNoDocument Json s = read s ≡ None
IsNoDocument Toml s = parse_document s ≡ None
IsNoDocument Yaml s = yaml_reading.read s ≡ None

-- x is the text s with its strings filled in: x is read as the tree of s with the strings filled in, and all
-- other bytes are those of s
abbrev pub IsFilledIn : Format → LookUp → List ℕ → List ℕ → Type 0
IsFilledIn Json look s x = json_in_place.IsFilledDocument (GivesBy (under look)) s x
IsFilledIn Toml look s x = toml_in_place.IsFilledDocument (GivesBy (under look)) s x
IsFilledIn Yaml look s x = yaml_in_place.IsFilledDocument (under look) s x

-- `place` is the span of the text s that spells `range` of the string whose token is at `token`
abbrev pub IsPlaceIn : Format → List ℕ → (token range place : Range ℕ) → Type 0
IsPlaceIn Json s token range place = json_places.IsPlaceIn s token range place
IsPlaceIn Toml s token range place = toml_places.IsPlaceIn s token range place
IsPlaceIn Yaml s token range place = yaml_places.IsPlaceIn s token range place

-- the path to a string; in YAML, it includes the number of the string's document
abbrev pub PathIn : Format → Type 0
PathIn Json = List PathStep
PathIn Toml = List PathStep
PathIn Yaml = yaml_paths.Path

-- the text of a path
abbrev pub path_text : (format : Format) → PathIn format → List ℕ
path_text Json path = pointer_text path
path_text Toml path = dotted_text path
path_text Yaml path = yaml_paths.path_text path

-- a refused string of a text: its path, its bytes, the span of its token, and its fault
pub record Refused (format : Format) : Type 0 where
  pub path : PathIn format
  pub text : List ℕ
  pub token : Range ℕ
  pub fault : Fault

-- `it` is the first refused string of the text s
abbrev pub IsFirst : (format : Format) → LookUp → List ℕ → Refused format → Type 0
IsFirst Json look s it =
    ((more : List Refusal) × AreRefusals (under look) (json_listed.located_in [] (tokens s))
    (record { path = it.path; text = it.text; fault = Some it.fault } ∷ more))
    × json.IsStringToken (slice_range s it.token.start it.token.end) it.text
IsFirst Toml look s it =
    ((more : List toml.RefusalIn) × toml.AreAllRefusals (under look) s
    (record { text = it.text; span = it.token; fault = Some it.fault } ∷ more))
    × toml.IsSpelledAt s it.token it.text
    × toml_outcome.ReadsAsTree s (λ d. toml_paths.Leads it.path d it.text)
IsFirst Yaml look s it =
    (first : yaml_listed.RefusalAt) × (more : List yaml_listed.RefusalAt)
    × yaml_listed.AreAllRefused (under look) s (first ∷ more)
    × (yaml_listed.found_of first ≡ record { text = it.text; span = it.token; path = it.path })
    × (error_fault first.error ≡ Some it.fault)

-- `reported` has the kind of `it.fault`, and the span in s that spells the fault's range in the string
pub record IsRecordIn (format : Format) (s : List ℕ) (it : Refused format) (reported : FaultRecord)
    : Type 0 where
  pub kind : reported.kind ≡ fault_number it.fault
  pub place : IsPlaceIn format s it.token (range_of (Some it.fault)) (range_at reported.position reported.length)

-- The record reports the fault of the first refused string of the text s, or that s is no document. In the
-- latter case, its position is a character boundary of s.
abbrev pub IsReported : Format → LookUp → List ℕ → FaultRecord → Type 0
IsReported format look s reported =
    (IsNoDocument format s × (reported.kind ≡ 6) × IsCharBoundary s reported.position)
    ⊎ ((it : Refused format) × IsFirst format look s it × IsRecordIn format s it reported)

-- the text before a fault's text: the path, a colon and a space, or nothing if the path is empty
abbrev pub before_fault : List ℕ → List ℕ
before_fault [] = []
before_fault (b ∷ path) = (b ∷ path) ++ codes ": "

-- `text` is `path`, a colon, a space and the text of the fault f, or only the text of f if `path` is empty
abbrev pub IsTextAfterPath : (path text : List ℕ) → Fault → Type 0
IsTextAfterPath path text f = (shown : List ℕ) × (text ≡ before_fault path ++ shown) × IsDisplayOfFault f shown

-- `text` is empty if the document s can be filled in. If a string is refused, `text` is the first refused
-- string's path and its fault's text, joined as `IsTextAfterPath` states. If s is no document, `text` can be
-- anything, since it is the reader's message.
abbrev pub IsDocumentFaultText : Format → LookUp → List ℕ → List ℕ → Type 0
IsDocumentFaultText format look s text =
    (((x : List ℕ) × IsFilledIn format look s x) × (text ≡ []))
    ⊎ (IsNoDocument format s
    ⊎ ((it : Refused format) × IsFirst format look s it × IsTextAfterPath (path_text format it.path) text it.fault))

-- the report of a text that is no document
pub record IsInvalid (s : List ℕ) (report : Report) : Type 0 where
  pub kind : report.fault.kind ≡ 6
  pub boundary : IsCharBoundary s report.fault.position
  pub within : LiesIn s report.fault

-- the report of the text s, which is no document or has a refused string
pub record IsRefusal (format : Format) (look : LookUp) (s : List ℕ) (report : Report) : Type 0 where
  pub reported : IsReported format look s report.fault
  pub within : LiesIn s report.fault
  pub text : IsDocumentFaultText format look s (string_bytes report.text)

-- P holds for the report, if the document is refused
abbrev pub IfRefused : Unfilled → (Report → Type 0) → Type 0
IfRefused (unfilled.Refused report) P = P report
IfRefused unfilled.NotConfirmed P = ⊤
IfRefused (unfilled.OutOfMemory e) P = ⊤

-- the document is refused, and P holds for the report
abbrev pub IsRefusedWith : Unfilled → (Report → Type 0) → Type 0
IsRefusedWith (unfilled.Refused report) P = P report
IsRefusedWith unfilled.NotConfirmed P = ⊥
IsRefusedWith (unfilled.OutOfMemory e) P = ⊥

-- the result is the text s filled in, or the report of its refusal; about other errors nothing is stated
abbrev pub IsResultOf : Format → LookUp → List ℕ → Result (String Global) Unfilled → Type 0
IsResultOf format look s (Ok text) = IsFilledIn format look s (string_bytes text)
IsResultOf format look s (Err e) = IfRefused e (IsRefusal format look s)

-- `text` is the text of a refused document's report, or empty if the document is filled in
abbrev pub IsTextOfResult : Result (String Global) Unfilled → List ℕ → Type 0
IsTextOfResult (Ok output) text = text ≡ []
IsTextOfResult (Err e) text = IsRefusedWith e (λ report. text ≡ string_bytes report.text)
