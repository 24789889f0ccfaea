-- The faults of a text or byte string that is refused.
use Rattle.std.specs.Prelude.{◌≡◌, ◌⊎◌, ◌++◌, ℕ, Bool, List, [], ◌∷◌, Option, Some, None, IsSomeAnd, IsUtf8, filter, length, map, not, string_bytes}
use Rattle.std.specs.List.{AllZip}
use Rattle.std.specs.List.Sorted.{IsPermutation}
use Rattle.std.specs.Str.{IsValidUpTo}
use Rattle.subst.specs.Calls.Variables.{missing_variable}
use Rattle.subst.specs.ErrorFault.{error_fault}
use Rattle.subst.specs.Errors.{Error}
use Rattle.subst.specs.Errors.error
use Rattle.subst.specs.Fault as library
use Rattle.subst.specs.Grammar.{Grammar}
use Rattle.subst.specs.Language.BadItem.{HasFault}
use Rattle.subst.specs.Language.LookUp.{LookUp}
use Rattle.subst.specs.Language.Sentence.{Spells}
use Rattle.subst.specs.Language.Tree.{Tree}
use Rattle.subst.specs.Language.Variables.{Variable, all_missing, variables_of}
use Rattle.subst.specs.Range.{range_of}
use Rattle.subst.specs.Reading.{IsReading}
use Rattle.subst.specs.Template.{IsTemplate}
use Rattle.subst_expander.specs.Fill.{looked_up_name, grammar_of, look_for, GivesFor}
use Rattle.subst_expander.specs.Layers.{look_up_in, is_unreadable, Entry}
use Rattle.subst_expander.specs.MapBack.{IsMappedIn}
use Rattle.subst_expander.specs.Ranges.{span_at}
use Rattle.subst_expander.specs.declared.fault.Cause.{Cause}
use Rattle.subst_expander.specs.declared.fault.Cause.TheVariants.{Refused, Unreadable, NotUtf8, Form}
use Rattle.subst_expander.specs.declared.fault.Fault.{Fault}
use Rattle.subst_expander.specs.declared.fill.Refusal.{Refusal}
use Rattle.subst_expander.specs.declared.fill.Refusal.TheVariants.{Missing, NotATemplate}
use Rattle.subst_expander.specs.declared.kinds.Placeholders.{Placeholders}
use Rattle.subst_expander.specs.declared.kinds.Placeholders.TheVariants.{Own, Chosen}
use Rattle.subst_foreign.specs.declared.forms.Forms.{Forms}
use Rattle.subst_foreign.specs.declared.refused.FormAt.{FormAt}

-- the source `s` is refused under the look-up: for a fault with this range, or for all its missing variables
abbrev pub IsRefusalUnder : LookUp → (s : List ℕ) → Refusal → Type 0
IsRefusalUnder look s (NotATemplate range e) =
    IsSomeAnd (error_fault e) (λ f. HasFault 0 s f × (range ≡ range_of (Some f)))
IsRefusalUnder look s (Missing list) = (¬ (list.items ≡ []))
    × ((t : Tree) × Spells t s × (map missing_variable list.items ≡ all_missing 0 t look))

-- the cause is that the value of this name isn't UTF-8
abbrev pub IsUnreadableName : List ℕ → Cause → Type 0
IsUnreadableName name (Unreadable other) = string_bytes other ≡ name
IsUnreadableName name _ = ⊥

-- the fault, at this position, is that the value of this name isn't UTF-8
abbrev pub IsUnreadableAt : (position : ℕ) → (name : List ℕ) → Fault → Type 0
IsUnreadableAt position name it =
    IsUnreadableName name it.cause × (it.range ≡ span_at position (length name)) × (string_bytes it.path ≡ [])

-- the value of this variable of a template isn't UTF-8
abbrev pub has_unreadable_value : Option Forms → List Entry → Variable → Bool
has_unreadable_value forms entries v = is_unreadable entries (looked_up_name forms v.name)

-- `faults` has one fault for each of `variables` whose value isn't UTF-8, in order
abbrev pub AreUnreadable : Option Forms → List Entry → (variables : List Variable) → (faults : List Fault) → Type 0
AreUnreadable forms entries variables faults =
    AllZip (λ v it. IsUnreadableAt v.position (looked_up_name forms v.name) it)
    (filter (has_unreadable_value forms entries) variables) faults

-- the cause is that this variable is missing
abbrev pub IsMissingCause : Variable → Cause → Type 0
IsMissingCause v (Refused (error.NoSuchVariable e)) = missing_variable e ≡ v
IsMissingCause v _ = ⊥

-- the fault is that this variable of a template is missing
abbrev pub IsMissingAt : Variable → Fault → Type 0
IsMissingAt v it =
    IsMissingCause v it.cause × (it.range ≡ span_at v.position (length v.name)) × (string_bytes it.path ≡ [])

-- `faults` has one fault for each of `variables`, in order, except for those whose value isn't UTF-8
abbrev pub AreMissing : Option Forms → List Entry → (variables : List Variable) → (faults : List Fault) → Type 0
AreMissing forms entries variables faults =
    AllZip IsMissingAt (filter (λ v. not (has_unreadable_value forms entries v)) variables) faults

-- `faults` are those of a template with the tree `t`, in some order: one for each variable whose value isn't
-- UTF-8, and one for each other missing variable
abbrev pub AreFaultsOfTree : Option Forms → List Entry → Tree → (faults : List Fault) → Type 0
AreFaultsOfTree forms entries t faults = (unreadable : List Fault) × (missing : List Fault)
    × AreUnreadable forms entries (variables_of 0 t) unreadable
    × AreMissing forms entries (all_missing 0 t (look_for forms (look_up_in entries))) missing
    × IsPermutation (unreadable ++ missing) faults

-- the fault is the library's error for `f`, with the range of `f`
abbrev pub IsErrorFor : (f : library.Fault) → Fault → Type 0
IsErrorFor f it = (e : Error) × (it.cause ≡ Refused e) × (error_fault e ≡ Some f)
    × (it.range ≡ range_of (Some f)) × (string_bytes it.path ≡ [])

-- `faults` are those of a template: its only fault if it has no tree, and otherwise those of its tree
abbrev pub AreFaultsBy : Option Forms → List Entry → (template : List ℕ) → (faults : List Fault) → Type 0
AreFaultsBy forms entries template faults =
    ((f : library.Fault) × (it : Fault) × HasFault 0 template f × IsErrorFor f it × (faults ≡ it ∷ []))
    ⊎ ((t : Tree) × Spells t template × AreFaultsOfTree forms entries t faults)

-- the fault is that the form `at` is refused
abbrev pub IsForm : (at : FormAt) → Fault → Type 0
IsForm at it =
    (it.cause ≡ Form at.form) × (it.range ≡ span_at at.position 1) × (string_bytes it.path ≡ [])

-- `faults` are the refused forms of the text `s`, in order
abbrev pub AreForms : Grammar → (s : List ℕ) → (faults : List Fault) → Type 0
AreForms g s faults = (forms : List FormAt) × IsReading g s forms × AllZip IsForm forms faults

-- `faults` are those of `s`, a text or byte string: those of the template, or of another tool's text the
-- refused forms, or else the faults of its template, each mapped back to `s`
abbrev pub AreAllFaultsOf : Placeholders → List Entry → (s : List ℕ) → (faults : List Fault) → Type 0
AreAllFaultsOf Own entries s faults = AreFaultsBy None entries s faults
AreAllFaultsOf (Chosen chosen) entries s faults = AreForms (grammar_of chosen entries) s faults
    ⊎ ((template : List ℕ) × IsTemplate (grammar_of chosen entries) chosen.missing s template
    × (list : List Fault) × AreFaultsBy (Some chosen.forms) entries template list
    × AllZip (IsMappedIn (grammar_of chosen entries) s template) list faults)

-- `faults` are those of `s`, a text or byte string, and there is at least one
abbrev pub AreFaultsOf : Placeholders → List Entry → (s : List ℕ) → (faults : List Fault) → Type 0
AreFaultsOf placeholders entries s faults = (¬ (faults ≡ [])) × AreAllFaultsOf placeholders entries s faults

-- `s`, a text or byte string, has faults
abbrev pub IsFaulty : Placeholders → List Entry → (s : List ℕ) → Type 0
IsFaulty placeholders entries s = (faults : List Fault) × AreFaultsOf placeholders entries s faults

-- `faults` are those of `s` in some order
abbrev pub AreShuffledFaultsOf : Placeholders → List Entry → (s : List ℕ) → (faults : List Fault) → Type 0
AreShuffledFaultsOf placeholders entries s faults =
    (list : List Fault) × AreFaultsOf placeholders entries s list × IsPermutation list faults

-- `faults` are those of `s` in some order, or none if `s` has an output
abbrev pub AreFaultsOrNone : Placeholders → List Entry → (s : List ℕ) → (faults : List Fault) → Type 0
AreFaultsOrNone placeholders entries s faults =
    ((faults ≡ []) × ((x : List ℕ) × GivesFor placeholders entries s x))
    ⊎ AreShuffledFaultsOf placeholders entries s faults

-- the bytes aren't UTF-8, and the fault reports this at the first invalid byte
abbrev pub IsNoText : List ℕ → Fault → Type 0
IsNoText s it = (it.cause ≡ NotUtf8) × (¬ (IsUtf8 s)) × IsValidUpTo s it.range.start
    × (it.range ≡ span_at it.range.start 1)
