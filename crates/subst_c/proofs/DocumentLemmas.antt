-- Lemmas on the reports of documents.
use Rattle.std.proofs.Common.{◌≡◌, ◌≤◌, ℕ, ◌+◌, List, [], ◌∷◌, length, map, Option, Some, Result, Ok, Err, IfOk, String, string_bytes, inl, inr, refl, ap, ◌∙◌, subst, sym}
use Rattle.std.specs.Global.{Global}
use Rattle.std.specs.List.{slice_get}
use Rattle.std.specs.Prelude.{◌≢◌, IsUtf8}
use Rattle.std.specs.Result.{IsErrAnd, IsOkAnd}
use Rattle.std.specs.declared.alloc.AllocError.{AllocError}
use Rattle.std.specs.declared.ops.Range.{Range}
use Rattle.subst_error.specs.ErrorFault.{error_fault}
use Rattle.subst_error.specs.Fault.{Fault}
use Rattle.subst_error.specs.Range.{range_at, range_of}
use Rattle.subst_language.proofs.CallingLemmas.{same_look_up}
use Rattle.subst_language.specs.Calls.VariableMap.{look_up_of}
use Rattle.subst_language.specs.Language.LookUp.{LookUp}
use Rattle.subst_language.specs.Language.Several.{under}
use Rattle.subst_document.specs.declared.edits.RefusalAt.{RefusalAt}
use Rattle.subst_json.specs.Listed.{refusal_at}
use Rattle.subst_json.specs.Listed as json_listed
use Rattle.subst_json.specs.Paths as json_paths
use Rattle.subst_json.specs.declared.path.Path as json
use Rattle.subst_toml.specs.Filled.{refusal_in}
use Rattle.subst_toml.specs.Listed as toml_listed
use Rattle.subst_toml.specs.Paths as toml_paths
use Rattle.subst_toml.specs.declared.path.Path as toml
use Rattle.subst_yaml.specs.InPlace.{holds, Holds}
use Rattle.subst_yaml.specs.Listed as yaml_listed
use Rattle.subst_yaml.specs.Paths as yaml_paths
use Rattle.subst_yaml.specs.declared.error.Fault as yaml
use Rattle.subst_yaml.proofs.PlaceLemmas.{place_within as yaml_place_within}
use Rattle.subst_yaml.specs.declared.error.Reason.{Reason}
use Rattle.subst_yaml.specs.declared.error.Reason.TheVariants.{InvalidUtf8, Reader}
use Rattle.subst_c.specs.Documents.{Format, Json, Toml, Yaml, IfRefused, IsFilledIn, IsFirst, IsInvalid, IsNoDocument, IsPlaceIn, IsRefusal, IsRefusedWith, IsReported, IsResultOf, IsTextOfResult, IsDocumentFaultText, PathIn, IsTextAfterPath, path_text}
use Rattle.subst_c.specs.Fault.{fault_number, LiesIn, SetsFault}
use Rattle.subst_c.specs.declared.fault.FaultRecord.{FaultRecord}
use Rattle.subst_c.specs.declared.outcome.TheConstants.{REFUSED}
use Rattle.subst_c.specs.declared.document.Unfilled.{Unfilled}
use Rattle.subst_c.specs.declared.document.Unfilled.TheVariants.{NotConfirmed, OutOfMemory, Refused}

-- the span of a range of a string is in the text
place_within : (format : Format) (s : List ℕ) (token range place : Range ℕ)
    → IsPlaceIn format s token range place → place.end ≤ length s
place_within Json s token range place h = h.within.1.0
place_within Toml s token range place h = h.0.1.0
place_within Yaml s token range place h = (yaml_place_within s token range place h).1.0

abbrev range_from : (start end : ℕ) → Range ℕ
range_from start end = record { start = start; end = end }

same_range : (place : Range ℕ) (position len : ℕ) → position ≡ place.start → position + len ≡ place.end
    → place ≡ range_at position len
same_range place position len start end =
    ap (λ n. range_from n place.end) (sym start) ∙ ap (range_from position) (sym end)

-- the first refused string is reported, with the span of its fault
pub first_refused : (format : Format) (look : LookUp) (s : List ℕ) (path : PathIn format) (x : List ℕ)
    (token place : Range ℕ) (e : Option Fault) (r : Result Unfilled AllocError)
    → ((f : Fault) → e ≡ Some f
    → IsFirst format look s (record { path = path; text = x; token = token; fault = f }))
    → IsPlaceIn format s token (range_of e) place
    → IfOk r (λ u. IfRefused u (λ report. (f : Fault) × (e ≡ Some f)
    × (report.fault.kind ≡ fault_number f) × (report.fault.position ≡ place.start)
    × (report.fault.position + report.fault.length ≡ place.end)
    × IsTextAfterPath (path_text format path) (string_bytes report.text) f))
    → IfOk r (λ u. IfRefused u (IsRefusal format look s))
first_refused format look s path x token place e (Ok (Refused report)) first placed
    (f, is, kind, start, end, text) =
    let told = report.fault in
    let span : place ≡ range_at told.position told.length =
    same_range place told.position told.length start end in
    let at_fault : IsPlaceIn format s token (range_of (Some f)) place =
    subst (λ o. IsPlaceIn format s token (range_of o) place) is placed in
    let at_told : IsPlaceIn format s token (range_of (Some f)) (range_at told.position told.length) =
    subst (λ p. IsPlaceIn format s token (range_of (Some f)) p) span at_fault in
    record {
      reported = inr (_, first f is, record { kind = kind; place = at_told });
      within = subst (λ n. n ≤ length s) (sym end) (place_within format s token (range_of e) place placed);
      text = inr (inr (_, first f is, text));
    }
first_refused format look s path x token place e (Ok NotConfirmed) first placed h = tt
first_refused format look s path x token place e (Ok (OutOfMemory m)) first placed h = tt
first_refused format look s path x token place e (Err m) first placed h = tt

-- the first item of a list of a JSON text's refusals is its first refused string
pub first_of_json : (look : LookUp) (s : List ℕ) (items : List (RefusalAt json.Path))
    (it : RefusalAt json.Path) (f : Fault) → Some it ≡ slice_get items 0
    → json_listed.AreAllRefused (under look) s items → error_fault it.error ≡ Some f
    → IsFirst Json look s (record {
      path = json_paths.steps_of it.path;
      text = string_bytes it.text;
      token = record { start = it.span.start; end = it.span.end };
      fault = f;
    })
first_of_json look s [] it f first all is = absurd cc
first_of_json look s (item ∷ items) it f first all is =
    let same : item ≡ it = cc in
    let of_it = subst (λ i. json_listed.AreAllRefused (under look) s (i ∷ items)) same all in
    ((map refusal_at items, rw is at of_it.refused), of_it.spelled.3)

-- the first item of a list of a TOML text's refusals is its first refused string
pub first_of_toml : (look : LookUp) (s : List ℕ) (items : List (RefusalAt toml.Path))
    (it : RefusalAt toml.Path) (f : Fault) → Some it ≡ slice_get items 0
    → toml_listed.AreAllRefused (under look) s items → error_fault it.error ≡ Some f
    → IsFirst Toml look s (record {
      path = toml_paths.steps_of it.path;
      text = string_bytes it.text;
      token = record { start = it.span.start; end = it.span.end };
      fault = f;
    })
first_of_toml look s [] it f first all is = absurd cc
first_of_toml look s (item ∷ items) it f first all is =
    let same : item ≡ it = cc in
    let of_it = subst (λ i. toml_listed.AreAllRefused (under look) s (i ∷ items)) same all in
    let (ms, reads, found) = of_it.found in
    ((map refusal_in items, rw is at of_it.refused), found.0.1, (ms, reads, found.0.0))

-- the first item of a list of a YAML text's refusals is its first refused string
pub first_of_yaml : (look : LookUp) (s : List ℕ) (items : List yaml_listed.RefusalAt)
    (it : yaml_listed.RefusalAt) (f : Fault) → Some it ≡ slice_get items 0
    → yaml_listed.AreAllRefused (under look) s items → error_fault it.error ≡ Some f
    → IsFirst Yaml look s (record {
      path = yaml_paths.path_of it.path;
      text = string_bytes it.text;
      token = record { start = it.span.start; end = it.span.end };
      fault = f;
    })
first_of_yaml look s [] it f first all is = absurd cc
first_of_yaml look s (item ∷ items) it f first all is =
    let same : item ≡ it = cc in
    (it, items, subst (λ i. yaml_listed.AreAllRefused (under look) s (i ∷ items)) same all, refl, is)

-- a text with a fault for such a reason isn't YAML
no_document : (s : List ℕ) (reason : Reason) → IsUtf8 s → holds s reason → IsNoDocument Yaml s
no_document s InvalidUtf8 text h = absurd (h text)
no_document s (Reader why) text h = h

-- the report of a text that isn't YAML is that of a refusal
pub refused_text : (look : LookUp) (s : List ℕ) (fault : yaml.Fault) (r : Unfilled) → IsUtf8 s
    → Holds s fault → IfRefused r (IsInvalid s) → IfRefused r (IsRefusal Yaml look s)
refused_text look s fault (Refused report) text h invalid =
    let why = no_document s fault.reason text h in record {
      reported = inl (why, invalid.kind, invalid.boundary);
      within = invalid.within;
      text = inr (inl why);
    }
refused_text look s fault NotConfirmed text h invalid = tt
refused_text look s fault (OutOfMemory e) text h invalid = tt

-- the report of a document that is refused with a map of pairs, under their look-up
pub refused_by_pairs : (format : Format) (look : LookUp) (s : List ℕ) (r : Unfilled)
    → IfRefused r (IsRefusal format (look_up_of (λ bytes. bytes) look) s) → IfRefused r (IsRefusal format look s)
refused_by_pairs format look s r is = subst (λ l. IfRefused r (IsRefusal format l s)) (same_look_up look) is

-- the output of a result is the document with its strings filled in
pub filled_by : (format : Format) (look : LookUp) (s : List ℕ) (r : Result (String Global) Unfilled)
    → IsResultOf format look s r → (x : List ℕ) → IsOkAnd r (λ text. x ≡ string_bytes text)
    → IsFilledIn format look s x
filled_by format look s (Ok text) is x same = subst (IsFilledIn format look s) (sym same) is
filled_by format look s (Err e) is x none = absurd none

-- the text of a result is that of the document's fault
pub text_of_result : (format : Format) (look : LookUp) (s : List ℕ) (r : Result (String Global) Unfilled)
    → IsResultOf format look s r → (text : List ℕ) → IsTextOfResult r text → IsDocumentFaultText format look s text
text_of_result format look s (Ok output) is text says = inl ((string_bytes output, is), says)
text_of_result format look s (Err (Refused report)) is text says =
    subst (IsDocumentFaultText format look s) (sym says) is.text
text_of_result format look s (Err NotConfirmed) is text says = absurd says
text_of_result format look s (Err (OutOfMemory e)) is text says = absurd says

-- the fault in such a result is that of the document
reported_by : (format : Format) (look : LookUp) (s : List ℕ) (r : Result (String Global) Unfilled)
    → IsResultOf format look s r → (told : FaultRecord)
    → IsErrAnd r (λ e. IsRefusedWith e (λ report. told ≡ report.fault))
    → IsReported format look s told × LiesIn s told
reported_by format look s (Ok output) is told refused = absurd refused
reported_by format look s (Err (Refused report)) is told refused =
    subst (λ (it : FaultRecord). IsReported format look s it × LiesIn s it) (sym refused)
    (is.reported, is.within)
reported_by format look s (Err NotConfirmed) is told refused = absurd refused
reported_by format look s (Err (OutOfMemory e)) is told refused = absurd refused

pub fault_by : (format : Format) (look : LookUp) (s : List ℕ) (r : Result (String Global) Unfilled)
    → IsResultOf format look s r → (result : ℕ) (old new : FaultRecord)
    → (result ≡ REFUSED → IsErrAnd r (λ e. IsRefusedWith e (λ report. new ≡ report.fault)))
    → (result ≢ REFUSED → new ≡ old) → SetsFault (IsReported format look s) s result old new
fault_by format look s r is result old new refused kept = record {
  refused = λ it. (reported_by format look s r is new (refused it)).0;
  within = λ it. (reported_by format look s r is new (refused it)).1;
  fault_kept = kept;
}
