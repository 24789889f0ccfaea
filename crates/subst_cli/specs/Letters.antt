-- A run that expands one template for each row of a file.
use denote.Ref.{Bor}
use Rattle.std.specs.Prelude.{◌≡◌, ◌⊎◌, ◌≤◌, ◌^◌, ◌∷◌, ℕ, Bool, true, false, List, [], Option, Some, Result, OnOk, IsTrue, IsUtf8, codes, length, if◌then◌else◌}
use Rattle.std.specs.Io.KnownBytes.{Keeps}
use Rattle.std.specs.List.{Any}
use Rattle.subst.specs.Language.LookUp.{LookUp}
use Rattle.subst_cli.specs.Expanded.{IsHandedOn}
use Rattle.subst_cli.specs.Files.{Event, GoesOn, OnlyReads, Read, Unread}
use Rattle.subst_expander.specs.Layers.{look_up_in}
use Rattle.subst_cli.specs.Run.{first_for, rest_for}
use Rattle.subst_cli.specs.Status.{Raises}
use Rattle.subst_expander.specs.declared.layers.Layers.{Layers}
use Rattle.subst_options.specs.declared.Action.{Action}
use Rattle.subst_options.specs.declared.Action.TheVariants.{Check}
use Rattle.subst_options.specs.declared.Options.{Options}
use Rattle.subst_options.specs.declared.RowsOptions.{RowsOptions}
use Rattle.subst_cli.specs.declared.report.Severity.{Severity}
use Rattle.subst_error.specs.Fault.{Fault}
use Rattle.subst_filter_lib.specs.Device.{AppendsPrefix}
use Rattle.subst_filter_lib.specs.declared.status.TheConstants.{DONE, REFUSED, DEVICE_FAILED}
use Rattle.subst_language.specs.Language.BadItem.{HasFault}
use Rattle.subst_language.specs.Language.Sentence.{ByTree}
use Rattle.subst_rows.specs.Columns.{IsFirstRepeated, bytes_of, names_at}
use Rattle.subst_rows.specs.Letter.{FillsSomeRows, FillsText, IsOpenedFor, separated}
use Rattle.subst_rows.specs.Row.{look_in_row}
use Rattle.subst_rows.specs.Rows.{IsRefusedText}
use Rattle.subst_rows.specs.RowsView.{RowsView}
use Rattle.subst_rows.specs.declared.error.RowsError.{RowsError}
use Rattle.subst_rows.specs.declared.letter.Letter.{Letter}

-- the look-up for a row: the values before those of the row, then the row's, then the others
abbrev pub look_for : Options → Layers → LookUp → LookUp
look_for options read row =
    look_in_row options.no_empty row (look_up_in (first_for options read)) (look_up_in (rest_for options read))

-- the path of the template: the first file, or standard input
abbrev pub template_path : List (Bor (List ℕ)) → List ℕ
template_path [] = codes "-"
template_path (path ∷ paths) = path.now

-- the letter has the template s, the rows' text, and the settings of the rows
pub record IsLetter (options : Options) (rows : RowsOptions) (text s : List ℕ) (letter : Letter) : Type 0 where
  pub template : letter.template.now ≡ s
  pub text_kept : letter.text.now ≡ text
  pub no_empty : letter.no_empty ≡ options.no_empty
  pub format : letter.format ≡ rows.format
  pub nested : letter.nested ≡ rows.nested
  pub names : ByTree s (λ t. bytes_of letter.names.now ≡ names_at t)

module _ {E : Type 0} (result : Result (Unit {0}) E) where
  -- Nothing was written, and the source is refused for a reason, or memory ran out. The severity is `before`
  -- before it, and `after` after it.
  abbrev pub IsRefused : (Reason : Type 0) → (before after : Severity) → {C : Type 0} → (first last : Option C)
      → (old new : Option (List ℕ)) → Type 0
  IsRefused Reason before after first last old new =
      (last ≡ first) × Keeps old new × OnOk result (Raises before after REFUSED × Reason)

  module _ (letter : Letter) (look_of : LookUp → LookUp) (separator : List ℕ) (leaves_out : Bool)
      (before after : Severity) (first last : Option (List Event)) (old new : Option (List ℕ)) where
    -- the outputs for all rows were handed on as the action says, but for refused rows if they are left out
    abbrev pub AllHandedOn : Action → Type 0
    AllHandedOn action = (outputs : List (List ℕ)) × (refused : Bool) × FillsText letter look_of outputs refused
        × (IsTrue refused → IsTrue leaves_out) × ((status : ℕ) × (calls : List Event) × GoesOn first last calls
        × IsHandedOn action (separated separator outputs) status calls old new
        × OnOk result (Raises before after status))

    -- a prefix of the outputs for some rows was printed: the device failed, or memory ran out
    abbrev pub SomePrinted : Type 0
    SomePrinted = (outputs : List (List ℕ)) × FillsSomeRows letter look_of outputs
        × AppendsPrefix old new (separated separator outputs) × (last ≡ first)
        × OnOk result (Raises before after DEVICE_FAILED)

    -- the outputs were written as the action says; nothing is written to check them
    abbrev pub IsLetterWritten : Action → Type 0
    IsLetterWritten Check = (last ≡ first) × Keeps old new × (after ≡ before)
    IsLetterWritten action = AllHandedOn action ⊎ SomePrinted

-- the call failed to read a file
abbrev pub FailsToRead : Event → Type 0
FailsToRead (Unread path) = Unit {0}
FailsToRead _ = ⊥

-- the text of a letter's rows isn't read
abbrev pub TextRefused : Letter → Type 0
TextRefused letter = (e : RowsError) × IsRefusedText letter.format letter.text.now e

-- a name occurs twice in the head of a letter's rows
abbrev pub HeadRefused : Letter → Type 0
HeadRefused letter = (opened : RowsView) × IsOpenedFor letter opened
    × ((index : ℕ) × IsFirstRepeated opened.head (Some index))

-- some row of a letter is refused
abbrev pub RowRefused : Letter → (look_of : LookUp → LookUp) → Type 0
RowRefused letter look_of = (outputs : List (List ℕ)) × FillsText letter look_of outputs true

-- the reason why nothing is written for a letter
abbrev pub LetterRefused : Letter → (look_of : LookUp → LookUp) → (keeps_going : Bool) → Type 0
LetterRefused letter look_of keeps_going =
    TextRefused letter ⊎ HeadRefused letter ⊎ (RowRefused letter look_of × (keeps_going ≡ false))

-- the reason why the template s isn't expanded: it isn't UTF-8, it is no sentence, or it is too long
abbrev pub TemplateRefused : List ℕ → Type 0
TemplateRefused s = (¬ (IsUtf8 s)) ⊎ ((f : Fault) × HasFault 0 s f) ⊎ (2 ^ 32 ≤ length s)

module _ {E : Type 0} (result : Result (Unit {0}) E) (options : Options) (rows : RowsOptions)
    (look_of : LookUp → LookUp) (after : Severity) where
  module _ (before : Severity) (first last : Option (List Event)) (old new : Option (List ℕ)) where
    -- a letter was expanded and its outputs were written, or it is refused
    abbrev pub IsExpanded : Letter → Type 0
    IsExpanded letter =
        IsRefused result (LetterRefused letter look_of rows.keeps_going) before after first last old new
        ⊎ ((outputs : List (List ℕ)) × (refused : Bool) × (at : Severity)
        × FillsText letter look_of outputs refused × (IsTrue refused → IsTrue rows.keeps_going)
        × Raises before at (if refused then REFUSED else DONE)
        × IsLetterWritten result letter look_of rows.separator.now refused at after first last old new
        options.action)

    -- the template s was expanded for each row of a text, or something is refused
    abbrev pub IsSheetRun : (text s : List ℕ) → Type 0
    IsSheetRun text s = IsRefused result (TemplateRefused s) before after first last old new
        ⊎ ((letter : Letter) × IsLetter options rows text s letter × IsExpanded letter)

  -- both files were read and the template was expanded for each row, or one of the files can't be read
  abbrev pub IsRowsRun : (before : Severity) → (first last : Option (List Event)) → (old new : Option (List ℕ))
      → Type 0
  IsRowsRun before first last old new =
      (OnlyReads first last × Keeps old new × OnOk result (Raises before after DEVICE_FAILED
      × ((calls : List Event) × GoesOn first last calls × Any FailsToRead calls)))
      ⊎ ((text s : List ℕ) × (mid : Option (List Event)) × (at : Severity)
      × GoesOn first mid (Read rows.file.now text ∷ Read (template_path options.files.items) s ∷ [])
      × Raises before at DONE × IsSheetRun at mid last old new text s)
