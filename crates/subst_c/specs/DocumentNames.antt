-- The names of a document's variables, and documents that are filled in with values by number.
use denote.Ref.{Bor}
use Rattle.std.specs.BTreeMap.{BTreeMap}
use Rattle.std.specs.Prelude.{◌≡◌, ◌≢◌, ◌⊎◌, ◌<◌, ℕ, ◌==◌, Bool, true, ◌&&◌, List, [], ◌∷◌, ◌++◌, fold, length, map, Some, is_some, Result, Ok, Err, String, Vec, if◌then◌else◌, string_bytes}
use Rattle.std.specs.Global.{Global}
use Rattle.std.specs.List.{concat, list_all}
use Rattle.std.specs.Str.{is_utf8}
use Rattle.json.specs.Lex.{tokens}
use Rattle.subst_indexed.specs.Expansion.{Values}
use Rattle.subst_indexed.specs.Numbering.{look_of, number_of}
use Rattle.subst_json.specs.Filled as json
use Rattle.subst_json.specs.Outcome as json_outcome
use Rattle.subst_language.specs.Language.LookUp.{LookUp}
use Rattle.subst_language.specs.Language.Sentence.{Spells}
use Rattle.subst_language.specs.Language.Tree.{Tree}
use Rattle.subst_language.specs.Language.Variables.{name_of, variables_of}
use Rattle.subst_toml.specs.Filled as toml
use Rattle.subst_toml.specs.Outcome as toml_outcome
use Rattle.subst_yaml.specs.Filled as yaml
use Rattle.subst_yaml.specs.Outcome as yaml_outcome
use Rattle.subst_c.specs.Buffer.{IsPut}
use Rattle.subst_c.specs.Documents.{Format, Json, Toml, Yaml, IfRefused, IsFilledIn, IsRefusal, IsReported}
use Rattle.subst_c.specs.Each.{ends_from}
use Rattle.subst_c.specs.Index.{indexed_value}
use Rattle.subst_c.specs.declared.document.Unfilled.{Unfilled}
use Rattle.subst_c.specs.declared.fault.FaultRecord.{FaultRecord}
use Rattle.subst_c.specs.declared.outcome.TheConstants.{DONE, ROOM_TOO_SMALL}
use Rattle.subst_c.specs.declared.value.Value.{Value}

-- the strings of the document s, in order; in YAML, those of the values that may change
abbrev pub AreStringsOf : Format → List ℕ → (strings : List (List ℕ)) → Type 0
AreStringsOf Json s strings = json_outcome.ReadsAsTree s (λ d. strings ≡ json.strings_in (tokens s))
AreStringsOf Toml s strings = toml_outcome.ReadsAsTree s (λ d. (found : List toml.Spelled)
    × (toml.strings_in s ≡ Some found) × (strings ≡ map (λ it. it.text) found))
AreStringsOf Yaml s strings = yaml_outcome.ReadsAs s (λ es. strings ≡ yaml.strings_in s es)

-- The strings are sentences, and `used` has the names of their variables, in order, also those in defaults.
abbrev pub UseNames : (strings used : List (List ℕ)) → Type 0
UseNames [] used = used ≡ []
UseNames (x ∷ strings) used = (t : Tree) × (more : List (List ℕ)) × Spells t x
    × (used ≡ map name_of (variables_of 0 t) ++ more) × UseNames strings more

-- the names, and this one after them if it is new
abbrev pub with_name : List (List ℕ) → List ℕ → List (List ℕ)
with_name names name = if is_some (number_of names name) then names else names ++ name ∷ []

-- each of these names once, in the order of first use
abbrev pub distinct : List (List ℕ) → List (List ℕ)
distinct used = fold with_name [] used

-- the map has exactly these names
abbrev pub KnowsNames : BTreeMap (Bor (List ℕ)) (Bor (List ℕ)) → List (List ℕ) → Type 0
KnowsNames known names = (name : List ℕ) → is_some (indexed_value known name) ≡ is_some (number_of names name)

-- the strings of the document s are sentences, and the names of their variables are `names`, each once, in
-- the order of first use
pub record HasNames (format : Format) (s : List ℕ) (names : List (List ℕ)) : Type 0 where
  pub strings : List (List ℕ)
  pub are_strings : AreStringsOf format s strings
  pub used : List (List ℕ)
  pub uses : UseNames strings used
  pub once : names ≡ distinct used

-- a look-up with a value for every name, so that no variable is missing
abbrev pub every_name : LookUp
every_name name = Some []

-- the result is the names of the document s, or its refusal, which is never for a missing variable
abbrev pub IsNamesResult : Format → List ℕ → Result (Vec (String Global) Global) Unfilled → Type 0
IsNamesResult format s (Ok names) = HasNames format s (map string_bytes names.items)
IsNamesResult format s (Err e) = IfRefused e (IsRefusal format every_name s)

-- The effect of a call with the result `result` on a buffer for the concatenated names, on `ends`, and on two
-- counts: of bytes and of names. `ends` has the position at which each name ends.
pub record WritesNames (AreNames : List (List ℕ) → Type 0) (result needed_old needed count_old count : ℕ)
    (old new ends_old ends : List ℕ) : Type 0 where
  -- if the result is `DONE`, the buffer begins with the names, and `ends` with their ends
  pub done : result ≡ DONE → (names : List (List ℕ)) × AreNames names
      × IsPut (λ x. x ≡ concat names) needed old new × IsPut (λ x. x ≡ ends_from 0 names) count ends_old ends
  -- if the result is `ROOM_TOO_SMALL`, the names are longer than the buffer, or more than `ends` has elements
  pub too_small : result ≡ ROOM_TOO_SMALL → (names : List (List ℕ)) × AreNames names
      × (needed ≡ length (concat names)) × (count ≡ length names)
      × ((length old < needed) ⊎ (length ends_old < count))
  -- unless the call is done, the buffer and `ends` are unchanged
  pub buffers_kept : result ≢ DONE → (new ≡ old) × (ends ≡ ends_old)
  -- unless the call is done or there is too little space, the counts are unchanged
  pub counts_kept : result ≢ DONE → result ≢ ROOM_TOO_SMALL → (needed ≡ needed_old) × (count ≡ count_old)

-- x is the document s, filled in with the value i for its name i
abbrev pub IsFilledByNumber : Format → Values → List ℕ → List ℕ → Type 0
IsFilledByNumber format values s x =
    (names : List (List ℕ)) × HasNames format s names × IsFilledIn format (look_of names values) s x

-- The record reports the fault of the document s whatever the values are, if it has one. Otherwise s has
-- names, and the fault is that of the first string that is refused with these values.
abbrev pub IsReportedByNumber : Format → Values → List ℕ → FaultRecord → Type 0
IsReportedByNumber format values s reported = IsReported format every_name s reported
    ⊎ ((names : List (List ℕ)) × HasNames format s names × IsReported format (look_of names values) s reported)

-- the value is UTF-8, or isn't read
abbrev pub is_text_if_set : Value → Bool
is_text_if_set v = if v.given == 1 then is_utf8 v.bytes.now else true

-- a source and the values that are set are UTF-8
abbrev pub are_set_texts : List ℕ → List Value → Bool
are_set_texts s values = is_utf8 s && list_all is_text_if_set values
