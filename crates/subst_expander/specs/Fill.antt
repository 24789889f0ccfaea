-- The outputs of sources. Depending on its placeholders, a source is a template itself, or is converted into
-- one.
use denote.Ref.{Bor}
use Rattle.std.specs.Prelude.{◌≡◌, ◌⊎◌, ◌==◌, ◌||◌, ◌++◌, ℕ, Bool, true, false, List, [], ◌∷◌, IsUtf8, Option, Some, None, if◌then◌else◌}
use Rattle.std.specs.List.{All, Any}
use Rattle.subst.specs.Foreign.{IsListed}
use Rattle.subst.specs.Grammar.{Grammar, grammar}
use Rattle.subst.specs.Json.InPlace as json
use Rattle.subst.specs.Language.Answer.{Answer, Answers, Gives, Refuses}
use Rattle.subst.specs.Language.LookUp.{LookUp}
use Rattle.subst.specs.Language.NamesIn.{names_in}
use Rattle.subst.specs.Language.Sentence.{Spells}
use Rattle.subst.specs.Language.Tree.{Tree}
use Rattle.subst.specs.Question.{by_question, value_of, is_missing, is_empty}
use Rattle.subst.specs.Template.{IsTemplate, seen_by}
use Rattle.subst.specs.Toml.InPlace as toml
use Rattle.subst.specs.Yaml.InPlace as yaml
use Rattle.subst_expander.specs.FormatRule.{format_of_source}
use Rattle.subst_expander.specs.Layers.{Entry, IsKnown, IsKnownBy, IsUnreadable, is_unreadable, look_up_in}
use Rattle.subst_expander.specs.Mark.{filled_of, kept_of}
use Rattle.subst_expander.specs.declared.document.format.Format.{Format}
use Rattle.subst_expander.specs.declared.document.format.Format.TheVariants.{Json, Toml, Yaml}
use Rattle.subst_expander.specs.declared.fill.LookUpValues.{LookUpValues}
use Rattle.subst_expander.specs.declared.fill.LookUpValues.TheVariants.{ByName, ByQuestion, NonEmpty}
use Rattle.subst_expander.specs.declared.format_rule.FormatRule.{FormatRule}
use Rattle.subst_expander.specs.declared.layers.Variables.{Variables}
use Rattle.subst_expander.specs.declared.kinds.Choice.{Choice}
use Rattle.subst_expander.specs.declared.kinds.Choice.TheVariants.{All as AllNames, Only, Known}
use Rattle.subst_expander.specs.declared.kinds.Chosen.{Chosen as ChosenForms}
use Rattle.subst_expander.specs.declared.kinds.InputFormat.{InputFormat}
use Rattle.subst_expander.specs.declared.kinds.InputFormat.TheVariants.{Text, Bytes, Document}
use Rattle.subst_expander.specs.declared.kinds.Placeholders.{Placeholders}
use Rattle.subst_expander.specs.declared.kinds.Placeholders.TheVariants.{Own, Chosen}
use Rattle.subst_expander.specs.declared.source.Source.{Source}
use Rattle.subst_filter_lib.specs.Arguments.{value_under}
use Rattle.subst_foreign.specs.declared.forms.Forms.{Forms}
use Rattle.subst_foreign.specs.declared.forms.Forms.TheVariants as of
use Rattle.subst_language.specs.Maps.{without_empty}

-- the name begins with one of `starts`
abbrev pub BeginsWithOne : List (Bor (List ℕ)) → List ℕ → Type 0
BeginsWithOne starts name = Any (λ start. (rest : List ℕ) × (name ≡ start.now ++ rest)) starts

-- all names are chosen
abbrev pub all_of : Choice → Bool
all_of AllNames = true
all_of _ = false

-- the name has the property `Has`, or an operator follows the name
abbrev pub or_operated : (List ℕ → Type 0) → (operated : Bool) → List ℕ → Type 0
or_operated Has true name = Unit {0}
or_operated Has false name = Has name

-- the name is chosen, given whether an operator follows the name; the known names are those set in
-- `variables`
abbrev pub has_in : Choice → Option (Bor Variables) → Bool → List ℕ → Type 0
has_in AllNames variables = λ operated name. Unit {0}
has_in (Only names starts) variables =
    λ operated name. IsListed names.names.keys name ⊎ BeginsWithOne starts.items name
has_in Known variables = or_operated (IsKnownBy variables)

-- the name is chosen, given whether an operator follows the name; the known names are those of the entries
abbrev pub has_of : Choice → List Entry → Bool → List ℕ → Type 0
has_of AllNames entries = λ operated name. Unit {0}
has_of (Only names starts) entries =
    λ operated name. IsListed names.names.keys name ⊎ BeginsWithOne starts.items name
has_of Known entries = or_operated (IsKnown (look_up_in entries) (is_unreadable entries))

-- the grammar of the chosen placeholders; for `grammar_in` the known names are those set in `variables`, and
-- for `grammar_of` those of the entries
abbrev pub grammar_in : ChosenForms → Option (Bor Variables) → Grammar
grammar_in chosen variables = grammar chosen.forms (all_of chosen.names) (has_in chosen.names variables)

abbrev pub grammar_of : ChosenForms → List Entry → Grammar
grammar_of chosen entries = grammar chosen.forms (all_of chosen.names) (has_of chosen.names entries)

-- `template` is the template of the source `s`: `s` itself, or the template that `s` is converted into
abbrev pub IsTemplateFor : Placeholders → List Entry → List ℕ → List ℕ → Type 0
IsTemplateFor Own entries s template = template ≡ s
IsTemplateFor (Chosen chosen) entries s template = IsTemplate (grammar_of chosen entries) chosen.missing s template

-- the forms of the texts that are converted into templates, or none if sources are templates themselves
abbrev pub forms_of : Placeholders → Option Forms
forms_of Own = None
forms_of (Chosen chosen) = Some chosen.forms

-- the look-up with which a template is expanded; `look` has the values of the variables. The template was
-- converted from a text in these forms; without forms, it is the source itself
abbrev pub look_for : Option Forms → LookUp → LookUp
look_for None look = look
look_for (Some forms) look = seen_by forms look

-- the look-up of the map in which a template looks up its names
abbrev pub look_up_of : LookUpValues → LookUp
look_up_of (ByName values) = value_under values.now
look_up_of (NonEmpty filled) = without_empty (value_under filled.map.now)
look_up_of (ByQuestion shell) = by_question (value_under shell.map.now)

-- the name of the variable for which a template looks up this name. In the template of a shell-style text, it
-- is the bytes after a leading digit 1, 2 or 3; otherwise it is the whole name
abbrev pub looked_up_name : Option Forms → List ℕ → List ℕ
looked_up_name (Some of.Shell) (b ∷ name) =
    if b == value_of || b == is_missing || b == is_empty then name else b ∷ name
looked_up_name _ name = name

-- the look-up has the values of the entries, and any value or none for a name whose value isn't UTF-8
abbrev pub Agrees : List Entry → LookUp → Type 0
Agrees entries look = (name : List ℕ) → ¬ (IsUnreadable entries name) → look name ≡ look_up_in entries name

-- the template has no name whose value isn't UTF-8, not even in a default that isn't used
abbrev pub AreReadable : Option Forms → List Entry → List ℕ → Type 0
AreReadable forms entries template = (t : Tree) → Spells t template
    → All (λ name. ¬ (IsUnreadable entries (looked_up_name forms name))) (names_in t)

-- the template expands to the output with the values of the entries, which are UTF-8
abbrev pub GivesBy : Option Forms → List Entry → List ℕ → List ℕ → Type 0
GivesBy forms entries template output = AreReadable forms entries template
    × ((look : LookUp) → Agrees entries look → Answers template (look_for forms look) (Gives output))

-- the source `s` expands to the output, as its template does
abbrev pub GivesFor : Placeholders → List Entry → List ℕ → List ℕ → Type 0
GivesFor placeholders entries s output = (template : List ℕ) × IsTemplateFor placeholders entries s template
    × GivesBy (forms_of placeholders) entries template output

-- if the answer is an output, `Becomes` holds for the string `s` and this output; nothing is required of a
-- refusal
abbrev pub GivesAs : (List ℕ → List ℕ → Type 0) → List ℕ → Answer → Type 0
GivesAs Becomes s (Gives x) = Becomes s x
GivesAs Becomes s (Refuses f) = Unit {0}

-- `output` is the document `source` with its strings filled in: `Becomes` holds for each string and its new
-- value
abbrev pub IsDocumentOutput : Format → (List ℕ → List ℕ → Type 0) → List ℕ → List ℕ → Type 0
IsDocumentOutput Json Becomes source output = json.IsFilledDocument Becomes source output
IsDocumentOutput Toml Becomes source output = toml.IsFilledDocument Becomes source output
IsDocumentOutput Yaml Becomes source output = yaml.IsFilledDocument (GivesAs Becomes) source output

-- `x` is the output of `s` in this format; `s` are those bytes of a source that are filled in
abbrev pub IsFilled : InputFormat → Placeholders → List Entry → List ℕ → List ℕ → Type 0
IsFilled Text placeholders entries s x = IsUtf8 s × GivesFor placeholders entries s x
IsFilled Bytes placeholders entries s x = GivesFor placeholders entries s x
IsFilled (Document format) placeholders entries s x =
    IsDocumentOutput format (GivesFor placeholders entries) s x

-- `output` is the output of the source `s` in this format: the bytes of `s` that are copied, and then the
-- output of the other bytes
abbrev pub IsOutput : InputFormat → Placeholders → List Entry → List ℕ → List ℕ → Type 0
IsOutput form placeholders entries s output = (x : List ℕ) × (output ≡ kept_of form s ++ x)
    × IsFilled form placeholders entries (filled_of form s) x

-- `output` is the output of a source, in the format that `rule` has for the source
abbrev pub IsSourceOutput : FormatRule → Placeholders → List Entry → Source → List ℕ → Type 0
IsSourceOutput rule placeholders entries source output =
    IsOutput (format_of_source rule source) placeholders entries source.bytes.items output

-- `output` is the concatenation of the outputs of the sources
abbrev pub AreOutputs : FormatRule → Placeholders → List Entry → List Source → List ℕ → Type 0
AreOutputs rule placeholders entries [] output = output ≡ []
AreOutputs rule placeholders entries (source ∷ sources) output = (x : List ℕ) × (more : List ℕ)
    × IsSourceOutput rule placeholders entries source x
    × AreOutputs rule placeholders entries sources more × (output ≡ x ++ more)
