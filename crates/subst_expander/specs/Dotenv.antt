-- The settings of .env files: each line sets a name to a value. The value's variables are looked up in
-- `above`, the entries of higher precedence than .env files, and then in `before`, the entries of earlier
-- lines.
use denote.Ref.{Bor}
use Rattle.std.specs.Global.{Global}
use Rattle.std.specs.HashMap.{HashMap, get_by_text}
use Rattle.std.specs.List.{All, Contains}
use Rattle.std.specs.Option.{option_map, option_or}
use Rattle.std.specs.Prelude.{◌≡◌, ◌⊎◌, ◌++◌, ◌-◌, ℕ, true, false, List, [], ◌∷◌, reverse, Some, Ok, Err, IfSome, IsUtf8, String, length, string_bytes}
use Rattle.subst.specs.ErrorFault.{error_fault}
use Rattle.subst.specs.Fault as fault
use Rattle.subst.specs.Foreign.{Given}
use Rattle.subst.specs.Grammar.{Grammar, grammar}
use Rattle.subst.specs.Language.LookUp.{LookUp}
use Rattle.subst.specs.Reading.{IsRefusalOf, Listing, VariableAt}
use Rattle.subst.specs.Template.{without_question}
use Rattle.subst.specs.Text as text
use Rattle.subst_expander.specs.DotenvLine.{Nothing, Sets, Wrong, line_in}
use Rattle.subst_expander.specs.Faults.{IsNoText}
use Rattle.subst_expander.specs.Layers.{Entry, IsUnreadable, entries_of, look_up_in}
use Rattle.subst_expander.specs.Mark.{after_mark}
use Rattle.subst_expander.specs.ValuesFaults.{HasOne, IsAt}
use Rattle.subst_expander.specs.ValuesFile.{after_blanks}
use Rattle.subst_expander.specs.declared.dotenv.Settings.{Settings}
use Rattle.subst_expander.specs.declared.dotenv.value.Scope.{Scope}
use Rattle.subst_expander.specs.declared.dotenv.value.Unexpanded.{Unexpanded}
use Rattle.subst_expander.specs.declared.dotenv.value.Unexpanded.TheVariants as unexpanded
use Rattle.subst_expander.specs.declared.fault.Cause.{Cause}
use Rattle.subst_expander.specs.declared.fault.Cause.TheVariants.{Form, NotUtf8, NoVariable, Unreadable, Unset}
use Rattle.subst_expander.specs.declared.fault.Fault.{Fault}
use Rattle.subst_expander.specs.declared.source.Refused.{Refused}
use Rattle.subst_filter_lib.specs.Arguments.{value_under}
use Rattle.subst_foreign.specs.declared.forms.Forms.TheVariants.{Shell}
use Rattle.subst_foreign.specs.declared.forms.Missing.TheVariants as missing
use Rattle.subst_foreign.specs.declared.refused.FormAt.{FormAt}
use Rattle.subst_foreign.specs.declared.refused.TextError.TheVariants as errors

-- the grammar of values: the forms of a shell, with all names chosen
abbrev pub shell : Grammar
shell = grammar Shell true (λ operated name. Unit {0})

-- `given` is the output of the shell-style text `s` under the look-up `look`, or the name of a required
-- variable that is missing. An unset variable without an operator expands to nothing
abbrev pub IsValueOf : LookUp → (s : List ℕ) → Given → Type 0
IsValueOf look s given = (items : text.Text) × text.IsText shell false items [] × (s ≡ text.spelling items)
    × (text.text_value Shell missing.Nothing items look ≡ given)

-- the value of the variable `name` where a line uses it: that of the name's first entry in `above`, or else
-- of its last entry in `before`
abbrev pub look_up_after : (above before : List Entry) → LookUp
look_up_after above before name = option_or (look_up_in above name) (look_up_in (reverse before) name)

-- the text `s` of a value expands to `x`, with the entries `above` and the entries `before` of earlier lines;
-- no variable of `s` has a value in `above` that isn't UTF-8
pub record Expands (above before : List Entry) (s x : List ℕ) : Type 0 where
  pub variables : List VariableAt
  pub listed : Listing shell 0 0 s variables
  pub readable : All (λ v. ¬ (IsUnreadable above v.name)) variables
  pub value : IsValueOf (look_up_after above before) s (Ok x)

-- one of `variables` has the name `name`, and the value of this name in the entries `above` isn't UTF-8
abbrev pub IsUnreadableAmong : List Entry → List VariableAt → (name : Bor (List ℕ)) → Type 0
IsUnreadableAmong above variables name =
    (v : VariableAt) × Contains variables v × (v.name ≡ name.now) × IsUnreadable above name.now

-- the text `s` has a variable of this name, whose value in the entries `above` isn't UTF-8
abbrev pub NamesUnreadable : List Entry → (s name : List ℕ) → Type 0
NamesUnreadable above s name = (variables : List VariableAt) × Listing shell 0 0 s variables
    × ((v : VariableAt) × Contains variables v × (v.name ≡ name)) × IsUnreadable above name

-- the text `s` of a value is refused for this cause, with the entries `above` and the entries `before` of
-- earlier lines. The cause is that `s` or a variable's value isn't UTF-8, that a form is refused, or that a
-- required variable is missing
abbrev pub IsRefusedFor : (above before : List Entry) → (s : List ℕ) → Cause → Type 0
IsRefusedFor above before s NotUtf8 = ¬ (IsUtf8 s)
IsRefusedFor above before s (Unreadable name) = NamesUnreadable above s (string_bytes name)
IsRefusedFor above before s (Form form) =
    (first : FormAt) × IsRefusalOf shell s (errors.Refused first) × (first.form ≡ form)
IsRefusedFor above before s (Unset unset) =
    IsValueOf (look_up_after above before) s (Err (string_bytes unset.name))
IsRefusedFor above before s _ = ⊥

-- the entry that sets a name to a value
abbrev pub setting : (name x : List ℕ) → Entry
setting name x = record { name = name; value = Some x }

-- The lines of the text `s` turn the entries `before` of earlier lines into `after`: each line that sets a
-- name appends an entry. Values are expanded with the entries of earlier lines, and with `above`, those of
-- higher precedence.
pub data Leaves (above : List Entry) : (before : List Entry) → (s : List ℕ) → (after : List Entry) → Type 0 where
  ended : {before : List Entry} → Leaves above before [] before
  nothing : {before after : List Entry} {s : List ℕ} (later : List ℕ) → line_in s ≡ Nothing later
      → Leaves above before later after → Leaves above before s after
  sets : {before after : List Entry} {s : List ℕ} (name value later x : List ℕ)
      → line_in s ≡ Sets name value later → Expands above before value x
      → Leaves above (before ++ setting name x ∷ []) later after → Leaves above before s after

-- the first refused line of the text `s` is refused for this cause; `rest` is the text from that line on,
-- without its leading blanks. `above` are the entries of higher precedence, and `before` those of the lines
-- before `s`
pub data Stops (above : List Entry) : (before : List Entry) → (s rest : List ℕ) → Cause → Type 0 where
  wrong : {before : List Entry} {s : List ℕ} (why : Bor (List ℕ)) → line_in s ≡ Wrong why.now
      → Stops above before s (after_blanks s) (NoVariable why)
  refused : {before : List Entry} {s : List ℕ} {cause : Cause} (name value later : List ℕ)
      → line_in s ≡ Sets name value later → IsRefusedFor above before value cause
      → Stops above before s (after_blanks s) cause
  after_nothing : {before : List Entry} {s rest : List ℕ} {cause : Cause} (later : List ℕ)
      → line_in s ≡ Nothing later → Stops above before later rest cause → Stops above before s rest cause
  after_setting : {before : List Entry} {s rest : List ℕ} {cause : Cause} (name value later x : List ℕ)
      → line_in s ≡ Sets name value later → Expands above before value x
      → Stops above (before ++ setting name x ∷ []) later rest cause → Stops above before s rest cause

-- Each outcome of reading `later`, starting with the entries `entries`, is also an outcome of reading `s`,
-- starting with the entries `before`. An outcome is the list of entries after all lines, or the first refused
-- line and its cause.
pub record GoesOn (above before : List Entry) (s : List ℕ) (entries : List Entry) (later : Bor (List ℕ))
    : Type 0 where
  pub leaves : (after : List Entry) → Leaves above entries later.now after → Leaves above before s after
  pub stops : (rest : List ℕ) (cause : Cause) → Stops above entries later.now rest cause
      → Stops above before s rest cause

-- the files, which are UTF-8 and are read in order, turn the entries `before` of earlier files into `after`;
-- values are expanded with the entries `above` too
abbrev pub FilesLeave : (above before : List Entry) → List (List ℕ) → (after : List Entry) → Type 0
FilesLeave above before [] after = before ≡ after
FilesLeave above before (s ∷ files) after = (middle : List Entry) × IsUtf8 s
    × Leaves above before (after_mark s) middle × FilesLeave above middle files after

-- `it` reports the first refused line of a file with the bytes `s`, at the offset where the line's leading
-- blanks end. `above` are the entries of higher precedence, and `before` those of earlier files
abbrev pub IsFirstRefusedLine : (above before : List Entry) → (s : List ℕ) → Fault → Type 0
IsFirstRefusedLine above before s it = (rest : List ℕ) × Stops above before (after_mark s) rest it.cause
    × IsAt (length s - length rest) it

-- `it` is the fault of a file with the bytes `s`: the bytes aren't UTF-8, or a line is refused
abbrev pub IsFaultOfFile : (above before : List Entry) → (s : List ℕ) → Fault → Type 0
IsFaultOfFile above before s it = IsNoText s it ⊎ (IsUtf8 s × IsFirstRefusedLine above before s it)

-- `it` reports the first refused file of `files`, with its one fault; the files `done` precede that file and
-- leave the entries `before`
pub record IsFirstRefused (above : List Entry) (files : List (List ℕ)) (it : Refused) : Type 0 where
  pub done : List (List ℕ)
  pub later : List (List ℕ)
  pub before : List Entry
  pub all : files ≡ done ++ it.source.bytes.items ∷ later
  pub leave : FilesLeave above [] done before
  pub faulty : HasOne (IsFaultOfFile above before it.source.bytes.items) it.faults.items

-- the value of a name in a map of texts
abbrev pub value_in : {S : Type 0} → HashMap (String Global) (String Global) S → LookUp
value_in values name = option_map string_bytes (get_by_text values name)

-- the settings' map has the value of each name's last entry
abbrev pub HasLast : Settings → Type 0
HasLast set = (name : List ℕ) → value_in set.values name ≡ look_up_in (reverse (entries_of set.entries.items)) name

-- the value of `name` in a scope: from the variables of higher precedence, or else from those that earlier
-- lines set
abbrev pub look_up_by : Scope → LookUp
look_up_by scope name = option_or (value_under scope.above.now.values name) (value_in scope.set.now name)

-- The fault `f` reports a variable that is required in the text `s` and missing under `look`. The conversion
-- of `s` to a template may put a digit before the variable's name, and `f` has the name with this digit.
abbrev pub IsMissingOf : LookUp → (s : List ℕ) → fault.Fault → Type 0
IsMissingOf look s f = (position : ℕ) × (name : List ℕ) × (f ≡ fault.NoSuchVariable position name)
    × IsValueOf look s (Err (without_question name))

-- the error is the first refused form of the text `s`, a required variable that is missing under `look`, or
-- out of memory
abbrev pub IsFaultOf : LookUp → (s : List ℕ) → Unexpanded → Type 0
IsFaultOf look s (unexpanded.Text e) = IsRefusalOf shell s e
IsFaultOf look s (unexpanded.Variable e) = IfSome (error_fault e) (IsMissingOf look s)
