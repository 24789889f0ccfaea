-- Lemmas on runs that expand one template for each row of a file.
use denote.Ref.{Bor}
use Rattle.std.proofs.Common.{◌≡◌, ◌∙◌, ◌+◌, ◌<◌, ◌∷◌, ℕ, Bool, true, false, List, [], None, OnOk, Option, Result, Ok, ap, Err, IsTrue, Some, arith, drop, get_or, if◌then◌else◌, inl, inr, map, nat_lt, refl, string_bytes, subst, suc, sym, take}
use Rattle.std.proofs.KnownBytes.{Appends-nil}
use Rattle.std.proofs.Math.Seq.{drop-cons}
use Rattle.std.proofs.lemmas.Grind.{common_steps}
use Rattle.std.proofs.lemmas.List.{drop_all}
use Rattle.std.specs.Io.KnownBytes.{Appends, Keeps}
use Rattle.std.specs.List.{Any}
use Rattle.std.proofs.lemmas.Option.{slice_get-map}
use Rattle.std.specs.Option.{option_and_then, option_map}
use Rattle.std.specs.Str.{bytes_eq}
use Rattle.std.specs.Prelude.{◌⊎◌, ◌≤◌, ◌^◌, IfSome, IsErr, IsSome, length, slice_get}
use Rattle.subst_cli.proofs.RunLemmas.{no_success}
use Rattle.subst_cli.proofs.WrittenLemmas.{calls_then, no_calls}
use Rattle.subst_cli.specs.Files.{Event, GoesOn, Read, Unread}
use Rattle.subst_expander.specs.Layers.{entries_of, look_up_in}
use Rattle.subst_cli.specs.Letters.{AllHandedOn, FailsToRead, HeadRefused, IsExpanded, IsLetter, IsLetterWritten, IsSheetRun, LetterRefused, RowRefused, SomePrinted, TemplateRefused, TextRefused, look_for}
use Rattle.subst_cli.specs.Run.{first_for, rest_for}
use Rattle.subst_cli.specs.Status.{Raises, worse}
use Rattle.subst_expander.specs.declared.entry.Entry.{Entry as CodeEntry}
use Rattle.subst_expander.specs.declared.layers.Layers.{Layers}
use Rattle.subst_options.specs.declared.Action.{Action}
use Rattle.subst_options.specs.declared.Action.TheVariants.{Check, ListNames, Print, Replace, WriteInto, WriteTo}
use Rattle.subst_options.specs.declared.Options.{Options}
use Rattle.subst_options.specs.declared.RowsOptions.{RowsOptions}
use Rattle.subst_cli.specs.declared.report.Severity.{Severity}
use Rattle.subst_cli.specs.declared.report.Severity.TheVariants.{Exhaustion, Failure, Misuse, Nothing, Refusal}
use Rattle.subst_error.specs.Fault.{Fault}
use Rattle.subst_filter_lib.specs.declared.status.TheConstants.{DONE, REFUSED, DEVICE_FAILED}
use Rattle.subst_indexed.specs.Parsed.{index_fault}
use Rattle.subst_indexed.specs.Slot.{values_of}
use Rattle.subst_indexed.specs.declared.parse.IndexError.{IndexError}
use Rattle.subst_indexed.specs.declared.parse.IndexError.TheVariants.{TooLong}
use Rattle.subst_language.specs.Language.BadItem.{HasFault}
use Rattle.subst_language.specs.Language.LookUp.{LookUp}
use Rattle.subst_language.specs.Language.Sentence.{ByTree, IsSentence, Spells}
use Rattle.subst_rows.specs.Columns.{IsFirstRepeated, bytes_of, names_at}
use Rattle.subst_rows.specs.Letter.{AreLetterValues, FillsSomeRows, FillsText, IsOpenedFor, separated}
use Rattle.subst_rows.specs.Row.{IsLookOf, look_in_row}
use Rattle.subst_rows.specs.RowsView.{RowsView}
use Rattle.subst_rows.specs.declared.letter.Letter.{Letter}

-- a fact that holds in any case holds of a success
pub on_ok : {T E P : Type 0} (result : Result T E) → P → OnOk result P
on_ok (Ok it) holds = holds
on_ok (Err e) holds = tt

-- the exit status stays as it is
pub raises_nothing : (worst : Severity) → Raises worst worst DONE
raises_nothing worst = inr (grind (arith, common_steps))

-- the exit status rises to that of a refusal
pub refuses : (worst : Severity) → Raises worst (worse worst Refusal) REFUSED
refuses Nothing = inr refl
refuses Refusal = inr refl
refuses Misuse = inr refl
refuses Failure = inr refl
refuses Exhaustion = inr refl

module _ {E : Type 0} (result : Result (Unit {0}) E) (letter : Letter) (look_of : LookUp → LookUp)
    (separator : List ℕ) (leaves_out : Bool) (before after : Severity) (first last : Option (List Event))
    (old new : Option (List ℕ)) where
  -- the outputs were handed on, or some of them were printed
  pub handed_on : (action : Action) → ((action ≡ Check) → ⊥)
      → AllHandedOn result letter look_of separator leaves_out before after first last old new action
      ⊎ SomePrinted result letter look_of separator leaves_out before after first last old new
      → IsLetterWritten result letter look_of separator leaves_out before after first last old new action
  handed_on Check other so = absurd (other refl)
  handed_on Print other so = so
  handed_on (WriteTo path) other so = so
  handed_on (WriteInto directory) other so = so
  handed_on Replace other so = so
  handed_on ListNames other so = so

  module _ (outputs : List (List ℕ)) (refused : Bool) (fills : FillsText letter look_of outputs refused)
      (left : IsTrue refused → IsTrue leaves_out) (appended : Appends old new (separated separator outputs))
      (same : last ≡ first) (kept : after ≡ before) where
    -- the outputs were printed
    printed : AllHandedOn result letter look_of separator leaves_out before after first last old new Print
    printed = (
      outputs,
      refused,
      fills,
      left,
      (
        DONE,
        [],
        rw same (no_calls first),
        (refl, inl (appended, refl)),
        rw kept (on_ok result (raises_nothing before)),
      ),
    )

    pub all_printed : (action : Action) → ((action ≡ Check) → ⊥)
        → ((path : Bor (List ℕ)) → (action ≡ WriteTo path) → ⊥)
        → IsLetterWritten result letter look_of separator leaves_out before after first last old new action
    all_printed Check other also = absurd (other refl)
    all_printed (WriteTo path) other also = absurd (also path refl)
    all_printed Print other also = inl printed
    all_printed (WriteInto directory) other also = inl printed
    all_printed Replace other also = inl printed
    all_printed ListNames other also = inl printed

  -- nothing was written, because memory ran out
  pub none_printed : (action : Action) → ((action ≡ Check) → ⊥) → last ≡ first → new ≡ old → IsErr result
      → IsLetterWritten result letter look_of separator leaves_out before after first last old new action
  none_printed action other same kept failed = handed_on action other
      (inr ([], inl refl, (0, rw kept (Appends-nil old)), same, no_success result _ failed))

-- the number after another
one_more : (n : ℕ) → suc n ≡ n + 1
one_more n = omega arith

-- an entry of a list, and those after it
entries_left : (entries : List CodeEntry) (at : ℕ) (entry : CodeEntry) → at < length entries
    → entry ≡ get_or entries at entry → drop at entries ≡ entry ∷ drop (at + 1) entries
entries_left entries at entry below is =
    subst (λ e. drop at entries ≡ e ∷ drop (at + 1) entries) (sym is)
    (subst (λ n. drop at entries ≡ get_or entries at entry ∷ drop n entries) (one_more at)
    (drop-cons entries at entry below))

module _ (entries : List CodeEntry) (name : List ℕ) (at : ℕ) (entry : CodeEntry) (below : at < length entries)
    (is : entry ≡ get_or entries at entry)
    (left : look_up_in (entries_of (drop at entries)) name ≡ look_up_in (entries_of entries) name) where
  -- the value of the name by those that are left
  by_rest : look_up_in (entries_of (entry ∷ drop (at + 1) entries)) name ≡ look_up_in (entries_of entries) name
  by_rest = subst (λ rest. look_up_in (entries_of rest) name ≡ look_up_in (entries_of entries) name)
      (entries_left entries at entry below is) left

  -- the entry has the name
  pub value_here : (value : Option (List ℕ)) → true ≡ bytes_eq name (string_bytes entry.name)
      → option_map string_bytes entry.value ≡ value → value ≡ look_up_in (entries_of entries) name
  value_here value same has = sym has ∙ rw (sym same) at by_rest

  -- the entry has another name
  pub value_after : false ≡ bytes_eq name (string_bytes entry.name)
      → look_up_in (entries_of (drop (at + 1) entries)) name ≡ look_up_in (entries_of entries) name
  value_after other = rw (sym other) at by_rest

-- no entry has the name
pub value_none : (entries : List CodeEntry) (name : List ℕ) (at : ℕ) → length entries ≤ at
    → look_up_in (entries_of (drop at entries)) name ≡ look_up_in (entries_of entries) name
    → None ≡ look_up_in (entries_of entries) name
value_none entries name at past left =
    subst (λ rest. look_up_in (entries_of rest) name ≡ look_up_in (entries_of entries) name)
    (drop_all at entries past) left

-- a name occurs twice in the head
pub repeated : (letter : Letter) (opened : RowsView) (head : List (Bor (List ℕ))) (found : Option ℕ) (index : ℕ)
    → IsOpenedFor letter opened → bytes_of head ≡ opened.head → IsFirstRepeated (bytes_of head) found
    → found ≡ Some index → HeadRefused letter
repeated letter opened head found index is same repeats some = (opened, is, (index, rw (same, some) at repeats))

-- a file was read, and then the other one couldn't be
pub second_unread : (old mid new : Option (List Event)) (first second bytes : List ℕ) (before at after : Severity)
    → GoesOn old mid (Read first bytes ∷ []) → GoesOn mid new (Unread second ∷ []) → at ≡ before
    → Raises at after DEVICE_FAILED
    → Raises before after DEVICE_FAILED × ((calls : List Event) × GoesOn old new calls × Any FailsToRead calls)
second_unread old mid new first second bytes before at after read unread kept raised = (
  subst (λ worst. Raises worst after DEVICE_FAILED) kept raised,
  (
    Read first bytes ∷ Unread second ∷ [],
    calls_then old mid new (Read first bytes ∷ []) (Unread second ∷ []) read
        unread,
    (1, Unread second, omega arith, refl, tt),
  ),
)

-- the exit status rises if some row is refused
pub raised_if : (count : ℕ) (before at : Severity) → (count ≡ 0 → at ≡ before)
    → (0 < count → Raises before at REFUSED)
    → Raises before at (if nat_lt 0 count then REFUSED else DONE)
raised_if count before at none some = of (nat_lt 0 count) refl
  where
    of : (any : Bool) → nat_lt 0 count ≡ any → Raises before at (if any then REFUSED else DONE)
    of true is = some (grind (arith, common_steps, is))
    of false is = subst (λ w. Raises before w DONE) (sym (none (grind (arith, common_steps, is))))
        (raises_nothing before)

-- a letter whose rows or whose head are refused
pub refused_early : (letter : Letter) (look_of : LookUp → LookUp) (keeps_going : Bool)
    → TextRefused letter ⊎ HeadRefused letter → LetterRefused letter look_of keeps_going
refused_early letter look_of keeps_going (inl text) = inl text
refused_early letter look_of keeps_going (inr head) = inr (inl head)

-- some rows are refused
pub some_refused : (letter : Letter) (look_of : LookUp → LookUp) (outputs : List (List ℕ)) (count : ℕ) → 0 < count
    → FillsText letter look_of outputs (nat_lt 0 count) → RowRefused letter look_of
some_refused letter look_of outputs count some fills =
    (outputs, subst (FillsText letter look_of outputs) (above_none count some) fills)
  where
    above_none : (count : ℕ) → 0 < count → nat_lt 0 count ≡ true
    above_none count some = grind (arith, common_steps, some)

-- rows are left out only if the run goes on after them
pub goes_on : (refused keeps : Bool) → keeps ≡ true → IsTrue refused → IsTrue keeps
goes_on refused keeps is some = is

pub none_refused : (count : ℕ) (keeps : Bool) → count ≤ 0 → IsTrue (nat_lt 0 count) → IsTrue keeps
none_refused count keeps none some = grind (arith, common_steps, none, some)

-- the value that an optional value has, if it is seen
flat : {X : Type 0} (see : X → Option (List ℕ)) (o : Option X) (v : Option (List ℕ)) → option_map see o ≡ Some v
    → option_and_then see o ≡ v
flat see None v is = grind (arith, common_steps, is)
flat see (Some x) v is = grind (arith, common_steps, is)

-- values are those of a look-up, by number
pub by_number : (items : List (Option (Bor (List ℕ)))) (names : List (Bor (List ℕ))) (look : LookUp)
    → map (option_map (λ bytes. bytes.now)) items ≡ map look (bytes_of names)
    → IsLookOf (bytes_of names) (values_of items) look
by_number items names look same number name is =
    flat (option_map (λ bytes. bytes.now)) (slice_get items number) (look name)
    (sym (slice_get-map (option_map (λ bytes. bytes.now)) items number) ∙ ap (λ all. slice_get all number) same
    ∙ slice_get-map look (bytes_of names) number ∙ ap (option_map look) is)

-- all elements of a list
pub taken : {X : Type 0} (xs : List X) (n : ℕ) → length xs ≤ n → take n xs ≡ xs
taken xs n past = grind (arith, common_steps, past)

-- the values of a letter, by its tree
pub sheet_values : (letter : Letter) (s : List ℕ) → IsSentence s → letter.template.now ≡ s
    → ByTree s (λ t. bytes_of letter.names.now ≡ names_at t) → (fixed fallback : LookUp)
    → IsLookOf (bytes_of letter.names.now) (values_of letter.fixed.now) fixed
    → IsLookOf (bytes_of letter.names.now) (values_of letter.fallback.now) fallback
    → AreLetterValues letter fixed fallback
sheet_values letter s (t, spelled) same names fixed fallback over under = record {
  tree = t;
  spelled = subst (Spells t) (sym same) spelled;
  names = names t spelled;
  over = subst (λ ns. IsLookOf ns (values_of letter.fixed.now) fixed) (names t spelled) over;
  under = subst (λ ns. IsLookOf ns (values_of letter.fallback.now) fallback) (names t spelled) under;
}

-- the letter of a sheet was expanded
pub sheet_run : {E : Type 0} (result : Result (Unit {0}) E) (options : Options) (rows : RowsOptions) (read : Layers)
    (text s : List ℕ) (before after : Severity) (first last : Option (List Event)) (old new : Option (List ℕ))
    (letter : Letter) → ((fixed fallback : LookUp) → AreLetterValues letter fixed fallback
    → IsExpanded result options rows (λ row. look_in_row letter.no_empty row fixed fallback) after before first
    last old new letter) → IsLetter options rows text s letter
    → AreLetterValues letter (look_up_in (first_for options read)) (look_up_in (rest_for options read))
    → IsSheetRun result options rows (look_for options read) after before first last old new text s
sheet_run result options rows read text s before after first last old new letter run is are =
    inr (
      letter,
      is,
      subst (λ no_empty. IsExpanded result options rows
          (λ row. look_in_row no_empty row (look_up_in (first_for options read))
          (look_up_in (rest_for options read)))
          after before first last old new letter) is.no_empty
          (run (look_up_in (first_for options read)) (look_up_in (rest_for options read)) are),
    )
