-- Lemmas on documents and their faults.
use Rattle.std.proofs.Common.{◌≡◌, ◌++◌, ◌∷◌, [], ℕ, List, Option, Some, None, Result, Ok, Err, IfErr, IfOk, IfSome, IsSome, Vec, All, Contains, String, ap, append-nil, append_assoc, arith, inl, inr, map, refl, string_bytes, subst, sym, ◌∙◌}
use Rattle.std.proofs.lemmas.List.{get_or-map, length-map}
use Rattle.std.proofs.lemmas.List.Elements.{All-cons, All-from_recursion, All-head, All-nil, All-same, All-tail, All-weaker, Contains-append_right}
use Rattle.std.proofs.lemmas.Result.{IfOk-weaker}
use Rattle.std.specs.Global.{Global}
use Rattle.std.specs.List.{AllByRecursion, AllZip}
use Rattle.std.specs.Prelude.{IsOkAnd, IsSomeAnd}
use Rattle.std.specs.declared.alloc.AllocError.{AllocError}
use Rattle.std.specs.declared.ops.Range.{Range}
use Rattle.json.specs.Lex.{tokens}
use Rattle.subst.specs.ErrorFault.{error_fault}
use Rattle.subst.specs.Errors.{Error}
use Rattle.subst.specs.Fault as library
use Rattle.subst.specs.Json as json
use Rattle.subst.specs.Json.Filled.{IsStringToken}
use Rattle.subst.specs.Json.Listed.{located, located_in}
use Rattle.subst.specs.Language.Answer.{Answer}
use Rattle.subst.specs.Toml as toml
use Rattle.subst.specs.Toml.Filled.{IsFound}
use Rattle.subst.specs.Yaml as yaml
use Rattle.subst.specs.Yaml.Listed.{IsRefusedAt}
use Rattle.subst.specs.declared.json.Path as json_path
use Rattle.subst.specs.declared.toml.Path as toml_path
use Rattle.subst.specs.declared.yaml.Path as yaml_path
use Rattle.subst_document.specs.Edits.{text_at, AreSpelled}
use Rattle.subst_document.specs.Paths.{AreRefusals, Located, Refusal}
use Rattle.subst_document.specs.declared.edits.StringAt.{StringAt}
use Rattle.subst_document.specs.declared.edits.RefusalAt.{RefusalAt}
use Rattle.subst_expander.proofs.ExpansionLemmas.{weaker_faults}
use Rattle.subst_expander.specs.Documents.{without_path, AreDocumentFaults, AreFaultsOfStrings, AreReported, IsKept, IsKeptIn, IsNoDocument, IsUnfilled, IsUnread, Leads, IsStringIn}
use Rattle.subst_expander.specs.Faults.{AreFaultsOrNone}
use Rattle.subst_expander.specs.Layers.{Entry}
use Rattle.subst_expander.specs.Strings.{AreFaults, FillsFrom}
use Rattle.subst_expander.specs.ValuesFaults.{HasOne}
use Rattle.subst_expander.specs.declared.document.filler.StringFiller.{StringFiller}
use Rattle.subst_expander.specs.declared.document.format.Format.{Format}
use Rattle.subst_expander.specs.declared.document.format.Format.TheVariants.{Json, Toml, Yaml}
use Rattle.subst_expander.specs.declared.document.format.Unfilled.{Unfilled}
use Rattle.subst_expander.specs.declared.document.format.Unfilled.TheVariants.{Refused, Unread}
use Rattle.subst_expander.specs.declared.fault.Cause.{Cause}
use Rattle.subst_expander.specs.declared.fault.Cause.TheVariants.{Mistake, NotADocument, NotConfirmed}
use Rattle.subst_expander.specs.declared.fault.Fault.{Fault}
use Rattle.subst_expander.specs.declared.kinds.Placeholders.{Placeholders}

-- ---- reasons why a document isn't filled in

unread_weaker : (IsNone Weaker : Type 0) → (IsNone → Weaker) → (cause : Cause) → IsUnread IsNone cause
    → IsUnread Weaker cause
unread_weaker IsNone Weaker weaker (Mistake mistake) is = weaker is
unread_weaker IsNone Weaker weaker (NotADocument message) is = weaker is
unread_weaker IsNone Weaker weaker NotConfirmed is = tt
unread_weaker IsNone Weaker weaker _ is = absurd is

-- weaker properties of a reason
pub unfilled_weaker : (IsNone IsRefused Weaker Refuses : Type 0) → (IsNone → Weaker) → (IsRefused → Refuses)
    → (why : Unfilled) → IsUnfilled IsNone IsRefused why → IsUnfilled Weaker Refuses why
unfilled_weaker IsNone IsRefused Weaker Refuses weaker refuses (Unread range cause) is =
    unread_weaker IsNone Weaker weaker cause is
unfilled_weaker IsNone IsRefused Weaker Refuses weaker refuses Refused is = refuses is

-- a fault that exists, with its property
pub stated : {X : Type 0} (fault : Option X) (P : X → Type 0) → IsSome fault → IfSome fault P → (x : X) × P x
stated None P some says = absurd (cc)
stated (Some x) P some says = (x, says)

-- the property of the library's result for an error of its reader, or of a string
pub json_reader : {T : Type 0} (returned : Result T json.Error) (P : Type 0) → json.Outcome.OnJson returned P
    → ¬ (json.Outcome.OnJson returned ⊥) → P
json_reader (Err (json.error.Json e)) P says is = says
json_reader (Err _) P says is = absurd (is tt)
json_reader (Ok it) P says is = absurd (is tt)

pub json_string : {T : Type 0} (returned : Result T json.Error) (P : library.Fault → Type 0)
    → json.Outcome.OnSubst returned P → IfErr returned json.Errors.HasOwnMemory
    → (e : Error) × (returned ≡ Err (json.error.Subst e)) → (f : library.Fault) × P f
json_string returned P says own (e, is) = stated (error_fault e) P (rw is at own) (rw is at says)

pub toml_reader : {T : Type 0} (returned : Result T toml.Error) (P : Type 0) → toml.Outcome.OnToml returned P
    → ¬ (toml.Outcome.OnToml returned ⊥) → P
toml_reader (Err (toml.error.Toml e)) P says is = says
toml_reader (Err _) P says is = absurd (is tt)
toml_reader (Ok it) P says is = absurd (is tt)

pub toml_string : {T : Type 0} (returned : Result T toml.Error) (P : library.Fault → Type 0)
    → toml.Outcome.OnSubst returned P → IfErr returned toml.Errors.HasOwnMemory
    → (e : Error) × (returned ≡ Err (toml.error.Subst e)) → (f : library.Fault) × P f
toml_string returned P says own (e, is) = stated (error_fault e) P (rw is at own) (rw is at says)

-- the reason why no strings were found is the reason that is returned
pub same_unfilled : {T U E : Type 0} (found : Result T Unfilled) (result : Result (Result U Unfilled) E)
    (P : Unfilled → Type 0) → IfErr found P
    → IfOk result (λ outcome. IfErr outcome (λ why. found ≡ Err why))
    → IfOk result (λ outcome. IfErr outcome P)
same_unfilled found result P says =
    weaker_faults result (λ why. found ≡ Err why) P (λ why is. subst (λ r. IfErr r P) is says)

-- ---- spans and paths of refused strings

-- if all mapped items have a property, all items have it once mapped
all_mapped : {X Y : Type 0} (f : X → Y) (P : Y → Type 0) (xs : List X) → All P (map f xs)
    → All (λ x. P (f x)) xs
all_mapped f P xs all k d below =
    subst P (get_or-map f xs k d (f d) below) (all k (f d) (simp length-map below))

-- the refusal is of one of these strings
abbrev IsOf : List Located → Refusal → Type 0
IsOf strings it = Contains strings (located it.path it.text)

-- refusals of these strings are those of a longer list
of_more : (s : Located) (strings : List Located) (refusals : List Refusal) → All (IsOf strings) refusals
    → All (IsOf (s ∷ strings)) refusals
of_more s strings refusals =
    All-weaker (IsOf strings) (IsOf (s ∷ strings))
    (λ it. Contains-append_right (s ∷ []) strings (located it.path it.text)) refusals

-- each refusal of strings is of one of them
refusals_of : (ask : List ℕ → Answer → Type 0) (strings : List Located) (refusals : List Refusal)
    → AreRefusals ask strings refusals → All (IsOf strings) refusals
refusals_of ask [] refusals none = All-same (IsOf []) refusals [] none (All-nil (IsOf []))
refusals_of ask (s ∷ strings) refusals (inl (given, rest)) =
    of_more s strings refusals (refusals_of ask strings refusals rest)
refusals_of ask (s ∷ strings) refusals (inr (f, left, refused, same, rest)) =
    let first : Refusal = record { path = s.path; text = s.text; fault = Some f } in
    All-same (IsOf (s ∷ strings)) refusals (first ∷ left) same (All-cons (IsOf (s ∷ strings)) first left
    (0, omega arith, refl) (of_more s strings left (refusals_of ask strings left rest)))

-- the refused string is in the text, with the text that its path displays as
abbrev IsDisplayedIn : {Path : Type 0} → Format → List ℕ → (Path → Option (List ℕ)) → RefusalAt Path → Type 0
IsDisplayedIn format text display it = IsSomeAnd (display it.path)
    (λ written. IsStringIn format text written (without_path it))

-- the texts that paths display as
abbrev pub json_display : json_path.Path → Option (List ℕ)
json_display path = Some (json.Pointer.pointer_text (json.Paths.steps_of path))

abbrev pub toml_display : toml_path.Path → Option (List ℕ)
toml_display path = Some (toml.DottedKey.dotted_text (toml.Paths.steps_of path))

abbrev pub yaml_display : yaml_path.Path → Option (List ℕ)
yaml_display path = Some (yaml.Paths.path_text (yaml.Paths.path_of path))

-- the refused string is in a JSON text
abbrev IsDisplayedInJson : List ℕ → json.Listed.RefusalAt → Type 0
IsDisplayedInJson text =
    IsDisplayedIn Json text json_display

abbrev IsIn : List ℕ → json.Listed.RefusalAt → Type 0
IsIn text it = Leads Json text (json.Paths.steps_of it.path) (string_bytes it.text)

-- the refused strings of a JSON text are in it
pub json_strings_in : (ask : List ℕ → Answer → Type 0) (text : List ℕ) (list : List json.Listed.RefusalAt)
    → json.Listed.AreAllRefused ask text list → All (IsDisplayedInJson text) list
json_strings_in ask text list are =
    from 0 list are.spelled (all_mapped json.Listed.refusal_at (IsOf (located_in [] (tokens text))) list
    (refusals_of ask _ _ are.refused))
  where
    from : (start : ℕ) (list : List json.Listed.RefusalAt)
        → AreSpelled IsStringToken text start (map without_path list)
        → All (IsIn text) list
        → All (IsDisplayedInJson text) list
    from start [] spelled lead = All-nil (IsDisplayedInJson text)
    from start (it ∷ list) spelled lead = All-cons (IsDisplayedInJson text) it list (record {
      within = spelled.0;
      forwards = spelled.2;
      token = spelled.3;
      path = json.Paths.steps_of it.path;
      leads = All-head (IsIn text) it list lead;
      is_written = refl;
    }) (from it.span.end list spelled.4 (All-tail (IsIn text) it list lead))

-- the refused strings that are found in a TOML text are in it
pub toml_strings_in : (text : List ℕ) (list : List (RefusalAt toml_path.Path))
    → toml.Outcome.ReadsAsTree text (λ d. AllByRecursion (IsFound text d) list)
    → All (IsDisplayedIn Toml text toml_display) list
toml_strings_in text list (ms, reads, found) =
    All-weaker (IsFound text _) (IsDisplayedIn Toml text toml_display) (λ it is. record {
      within = is.1.0;
      forwards = is.1.1;
      token = is.1.2;
      path = toml.Paths.steps_of it.path;
      leads = (ms, reads, is.0);
      is_written = refl;
    }) list (All-from_recursion (IsFound text _) list found)

-- the refused strings of a YAML text are in it
pub yaml_strings_in : (text : List ℕ) (list : List (RefusalAt yaml_path.Path))
    → AllByRecursion (IsRefusedAt text) list → All (IsDisplayedIn Yaml text yaml_display) list
yaml_strings_in text list stand =
    All-weaker (IsRefusedAt text) (IsDisplayedIn Yaml text yaml_display) (λ it is. record {
      within = is.spelled.within;
      forwards = is.spelled.forwards;
      token = is.spelled.token;
      path = yaml.Paths.path_of it.path;
      leads = is.leads;
      is_written = refl;
    }) list (All-from_recursion (IsRefusedAt text) list stand)

-- a refused string that is in the text is so as it is kept
as_kept : (format : Format) (text : List ℕ) (displayed : Option (List ℕ)) (path : List ℕ) (place it : StringAt)
    → IsSomeAnd displayed (λ written. IsStringIn format text written place)
    → IfSome displayed (λ written. path ≡ written) → it ≡ place → IsStringIn format text path it
as_kept format text None path place it stands same is = absurd stands
as_kept format text (Some written) path place it stands same is = rw (same, is) stands

of_kept : {Path : Type 0} (format : Format) (text : List ℕ) (display : Path → Option (List ℕ))
    (list : List (RefusalAt Path)) (strings : List (String Global × StringAt))
    → AllZip (IsKept display) list strings → All (IsDisplayedIn format text display) list
    → All (IsKeptIn format text) strings
of_kept format text display [] [] kept stand = All-nil (IsKeptIn format text)
of_kept format text display [] (one ∷ strings) kept stand = absurd kept
of_kept format text display (it ∷ list) [] kept stand = absurd kept
of_kept format text display (it ∷ list) (one ∷ strings) kept stand =
    All-cons (IsKeptIn format text) one strings
    (as_kept format text (display it.path) (string_bytes one.0) (without_path it) one.1
    (All-head (IsDisplayedIn format text display) it list stand) kept.0.0 kept.0.1)
    (of_kept format text display list strings kept.1 (All-tail (IsDisplayedIn format text display) it list stand))

-- refused strings that are in the text are so as they are kept, for results that may be none
pub of_refused : {Path E : Type 0} (format : Format) (text : List ℕ) (display : Path → Option (List ℕ))
    (returned : Result (Option (Vec (RefusalAt Path) Global)) E)
    (found : Result (Vec (RefusalAt Path) Global) Unfilled)
    (result : Result (Result (Vec (String Global × StringAt) Global) Unfilled) AllocError)
    → IfOk returned (λ list. IfSome list (λ list. All (IsDisplayedIn format text display) list.items))
    → IfOk found (λ it. returned ≡ Ok (Some it))
    → IfOk result (λ outcome. IfOk outcome (λ strings. IsOkAnd found
    (λ found. AllZip (IsKept display) found.items strings.items)))
    → IfOk result (λ outcome. IfOk outcome (λ strings. All (IsKeptIn format text) strings.items))
of_refused format text display returned (Ok list) (Ok (Ok strings)) stand is kept =
    of_kept format text display list.items strings.items kept
    (subst (λ r. IfOk r (λ it. IfSome it (λ list. All (IsDisplayedIn format text display) list.items))) is stand)
of_refused format text display returned (Err why) (Ok (Ok strings)) stand is kept = absurd kept
of_refused format text display returned found (Ok (Err why)) stand is kept = tt
of_refused format text display returned found (Err e) stand is kept = tt

-- refused strings that are in the text are so as they are kept, for results that are always lists
pub of_listed : {Path E : Type 0} (format : Format) (text : List ℕ) (display : Path → Option (List ℕ))
    (returned : Result (Vec (RefusalAt Path) Global) E) (found : Result (Vec (RefusalAt Path) Global) Unfilled)
    (result : Result (Result (Vec (String Global × StringAt) Global) Unfilled) AllocError)
    → IfOk returned (λ list. All (IsDisplayedIn format text display) list.items)
    → IfOk found (λ it. returned ≡ Ok it)
    → IfOk result (λ outcome. IfOk outcome (λ strings. IsOkAnd found
    (λ found. AllZip (IsKept display) found.items strings.items)))
    → IfOk result (λ outcome. IfOk outcome (λ strings. All (IsKeptIn format text) strings.items))
of_listed format text display returned (Ok list) (Ok (Ok strings)) stand is kept =
    of_kept format text display list.items strings.items kept
    (subst (λ r. IfOk r (λ list. All (IsDisplayedIn format text display) list.items)) is stand)
of_listed format text display returned (Err why) (Ok (Ok strings)) stand is kept = absurd kept
of_listed format text display returned found (Ok (Err why)) stand is kept = tt
of_listed format text display returned found (Err e) stand is kept = tt

-- ---- faults of a document

-- the faults of the next string come after those of the others
pub strings_more : (format : Format) (placeholders : Placeholders) (entries : List Entry) (text : List ℕ)
    (strings : List (String Global × StringAt)) (one : String Global × StringAt)
    (faults list reported : List Fault) → AreFaultsOfStrings format placeholders entries text strings faults
    → AreFaultsOrNone placeholders entries (text_at one.1) list
    → AreReported format text (string_bytes one.0) one.1.span list reported
    → AreFaultsOfStrings format placeholders entries text (strings ++ one ∷ []) (faults ++ reported)
strings_more format placeholders entries text [] one faults list reported none are told =
    (list, reported, [], are, told, refl, rw none (sym (append-nil reported)))
strings_more format placeholders entries text (s ∷ strings) one faults list reported
    (here, first, more, of, at, rest, both) are told = (
      here,
      first,
      more ++ reported,
      of,
      at,
      strings_more format placeholders entries text strings one more list reported rest are told,
      ap (λ l. l ++ reported) both ∙ append_assoc first more reported,
    )

-- the faults of a string under the entries of the filler's variables
pub faults_or_none : (filler : StringFiller) (entries : List Entry) (s : List ℕ) (faults : List Fault)
    → FillsFrom filler entries → AreFaults filler s faults
    → AreFaultsOrNone filler.placeholders.now entries s faults
faults_or_none filler entries s faults from (inl (none, (x, (_, gives)))) = inl (none, (x, gives entries from))
faults_or_none filler entries s faults from (inr some) = inr (some entries from)

-- the only fault is that a text is no document, or that its output isn't confirmed
pub unread_one : {E : Type 0} (format : Format) (placeholders : Placeholders) (entries : List Entry)
    (text : List ℕ) (cause : Cause) (range : Range ℕ) (result : Result (Vec Fault Global) E)
    → IsUnread (IsNoDocument format text) cause
    → IfOk result (λ faults. HasOne (λ it. (it.cause ≡ cause) × (it.range ≡ range)) faults.items)
    → IfOk result (λ faults. AreDocumentFaults format placeholders entries text faults.items)
unread_one format placeholders entries text cause range result unread one =
    IfOk-weaker result _ _ (λ faults (it, is, path, (same, at)). inl (it, is, path, rw same unread)) one
