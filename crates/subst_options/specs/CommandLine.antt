-- The command line: its options, and what `clap` finds in the arguments.
use Rattle.std.specs.Prelude.{◌≡◌, ◌≤◌, ◌&&◌, ℕ, Bool, true, false, List, [], ◌∷◌, ◌++◌, codes, if◌then◌else◌, length, map, nat_eq, Option, Some, None, unwrap_or, IfSome, String, string_bytes}
use Rattle.std.specs.Borrow.{Bor}
use Rattle.std.specs.Global.{Global}
use Rattle.std.specs.List.{All, ends_with, list_any}
use Rattle.std.specs.Option.{option_map_or}
use Rattle.std.specs.Str.{bytes_eq}
use Rattle.clap.specs.Walk.{Row, Rule, Text, all_of, first_of, is_empty, one_of}
use Rattle.clap.specs.Simple.{App, matches_of, new_rule, new_shape}
use Rattle.clap.specs.Takes.{is_given}
use Rattle.clap.specs.declared.builder.action.ArgAction.{ArgAction}
use Rattle.clap.specs.declared.builder.action.ArgAction.TheVariants.{Append, SetTrue}
use Rattle.clap.specs.declared.builder.arg.Arg.{Arg}
use Rattle.subst_options.specs.declared.Action.{Action}
use Rattle.subst_options.specs.declared.Action.TheVariants.{Check, ListNames, Print, Replace, WriteInto, WriteTo}
use Rattle.subst_expander.specs.declared.kinds.Escape.{Escape}
use Rattle.subst_expander.specs.declared.kinds.Escape.TheVariants.{Json, Nothing, Sh}
use Rattle.subst_expander.specs.declared.kinds.LineEnd.{LineEnd}
use Rattle.subst_expander.specs.declared.kinds.LineEnd.TheVariants.{Kept, Removed}
use Rattle.subst_rows.specs.declared.rows.RowsFormat.{RowsFormat}
use Rattle.subst_rows.specs.declared.rows.RowsFormat.TheVariants.{Csv, JsonLines, Tsv}
use Rattle.subst_options.specs.declared.RowsOptions.{RowsOptions}
use Rattle.subst_options.specs.declared.table.Row.{Row as TableRow}
use Rattle.subst_options.specs.declared.table.Uses.{Uses}
use Rattle.subst_options.specs.declared.table.Uses.TheVariants as uses

-- a flag, or an option with a value that may be given once or any number of times
pub data Kind : Type 0 where
  Flag : Kind
  Once : Kind
  Many : Kind

-- an option: its long name, its short name, its kind, and options that can't be used with it
pub record CommandOption : Type 0 where
  pub name : Text
  pub short : Option ℕ
  pub kind : Kind
  pub excludes : List Text

-- the kind of an option with a value
abbrev pub kind_of_uses : Uses → Kind
kind_of_uses uses.Once = Once
kind_of_uses uses.Many = Many

-- the kind of an option of the code's table, by its value's name and its uses
abbrev pub kind_in : Option (Bor Text × Uses) → Kind
kind_in None = Flag
kind_in (Some takes) = kind_of_uses takes.1

-- an option of the code's table
abbrev pub option_of : TableRow → CommandOption
option_of row = record {
  name = row.long.now;
  short = row.short;
  kind = kind_in row.takes;
  excludes = map (λ name. name.now) row.conflicts.now;
}

-- the action of `clap` for an option of this kind
abbrev pub action_for : Kind → ArgAction
action_for Flag = SetTrue
action_for _ = Append

-- the number of names that the help has for a value
abbrev pub value_names_of : Kind → ℕ
value_names_of Flag = 0
value_names_of _ = 1

-- an option, as `clap` parses it
abbrev pub rule_of_option : CommandOption → Rule
rule_of_option o = record (new_rule o.name) {
  long = Some o.name;
  short = o.short;
  action = Some (action_for o.kind);
  value_names = value_names_of o.kind;
  is_free = is_empty o.excludes;
}

-- an option of the code's table, as `clap` parses it
abbrev pub rule_of_row : TableRow → Rule
rule_of_row row = rule_of_option (option_of row)

-- an option with this name, short name, kind and options that can't be used with it
abbrev option : Text → Option ℕ → Kind → List Text → CommandOption
option name short kind excludes =
    record { name = name; short = short; kind = kind; excludes = excludes }

-- the options of `subst`, in the order of its help. Of two options that exclude each other, one lists the
-- other.
unfoldable pub options : List CommandOption
options =
    option (codes "set") (Some 115) Many []
    ∷ option (codes "set-file") None Many []
    ∷ option (codes "values") (Some 102) Many []
    ∷ option (codes "keep-line-end") None Flag []
    ∷ option (codes "env") (Some 101) Flag []
    ∷ option (codes "dotenv") None Many []
    ∷ option (codes "default") None Many []
    ∷ option (codes "defaults") None Many []
    ∷ option (codes "no-empty") None Flag []
    ∷ option (codes "escape") None Once []
    ∷ option (codes "rows") None Once
    (codes "escape" ∷ codes "format" ∷ codes "json" ∷ codes "toml" ∷ codes "yaml" ∷ codes "auto"
    ∷ codes "only" ∷ codes "envsubst" ∷ codes "known" ∷ codes "shell" ∷ codes "compose" ∷ codes "strict"
    ∷ codes "optional" ∷ codes "output-folder" ∷ codes "strip" ∷ codes "in-place" ∷ codes "names" ∷ [])
    ∷ option (codes "rows-format") None Once []
    ∷ option (codes "separator") None Once []
    ∷ option (codes "nested") None Once []
    ∷ option (codes "keep-going") None Flag []
    ∷ option (codes "format") None Once
    (codes "json" ∷ codes "toml" ∷ codes "yaml" ∷ codes "bytes" ∷ codes "auto" ∷ [])
    ∷ option (codes "json") None Flag
    (codes "toml" ∷ codes "yaml" ∷ codes "bytes" ∷ codes "auto" ∷ [])
    ∷ option (codes "toml") None Flag (codes "yaml" ∷ codes "bytes" ∷ codes "auto" ∷ [])
    ∷ option (codes "yaml") None Flag (codes "bytes" ∷ codes "auto" ∷ [])
    ∷ option (codes "bytes") None Flag (codes "auto" ∷ [])
    ∷ option (codes "auto") None Flag []
    ∷ option (codes "only") None Many (codes "known" ∷ [])
    ∷ option (codes "envsubst") None Flag (codes "shell" ∷ codes "compose" ∷ [])
    ∷ option (codes "known") None Flag (codes "names" ∷ [])
    ∷ option (codes "shell") None Flag []
    ∷ option (codes "compose") None Flag []
    ∷ option (codes "strict") None Flag []
    ∷ option (codes "optional") None Flag []
    ∷ option (codes "output") (Some 111) Once
    (codes "output-folder" ∷ codes "in-place" ∷ codes "check" ∷ codes "names" ∷ [])
    ∷ option (codes "output-folder") (Some 79) Once
    (codes "in-place" ∷ codes "check" ∷ codes "names" ∷ [])
    ∷ option (codes "strip") None Once (codes "output" ∷ [])
    ∷ option (codes "in-place") (Some 105) Flag (codes "check" ∷ codes "names" ∷ [])
    ∷ option (codes "check") None Flag (codes "names" ∷ [])
    ∷ option (codes "names") None Flag []
    ∷ []

-- the files of a command line, as `clap` parses them
abbrev pub files_rule : Rule
files_rule = record (new_rule (codes "files")) { action = Some Append; value_names = 1 }

-- the command `subst` with these rules
abbrev pub app_with : List Rule → App
app_with rules = record {
  top = record (new_shape (codes "subst")) {
    rules = rules;
    has_version = true;
    args_override_self = true;
  };
  subs = [];
}

-- a command with more rules
abbrev pub with_rules : App → List Rule → App
with_rules app rules = record app { top = record app.top { rules = app.top.rules ++ rules } }

-- the command `subst` with its options and files
unfoldable pub subst_app : App
subst_app = app_with (map rule_of_option options ++ (files_rule ∷ []))

-- the exclusion of an argument: its name, and the names of those that it excludes
abbrev pub exclusion_of : Arg → Text × List Text
exclusion_of a = (a.id.now, map (λ id. id.now) a.conflicts.items)

-- the exclusion of an option
abbrev pub exclusion_of_option : CommandOption → Text × List Text
exclusion_of_option o = (o.name, o.excludes)

-- the exclusion of an option of the code's table
abbrev pub exclusion_of_row : TableRow → Text × List Text
exclusion_of_row row = exclusion_of_option (option_of row)

-- the exclusions of all options and of the files
unfoldable pub exclusions : List (Text × List Text)
exclusions = map exclusion_of_option options ++ ((codes "files", []) ∷ [])

-- what `clap` finds in the arguments, the first of which is the program's name: a row for each option that
-- is given or has a default
unfoldable pub asked : List Text → List Row
asked arguments = matches_of subst_app arguments

-- what `clap` finds in the arguments of a run
abbrev pub asked_by : List (String Global) → List Row
asked_by arguments = asked (map string_bytes arguments)

-- the values of an option, in the order of the arguments
abbrev pub option_values : Text → List Row → List Text
option_values name rows = unwrap_or (all_of name rows) []

-- `value` is true if the flag's row is "true", and false if it is "false" or there is no row
abbrev pub IsFlag : List Row → Text → Bool → Type 0
IsFlag rows name value = (one_of name rows ≡ Some (codes "true") → value ≡ true)
    × (one_of name rows ≡ Some (codes "false") → value ≡ false)
    × (one_of name rows ≡ None → value ≡ false)

-- the last line end of a value is kept
abbrev pub keeps_line_end : LineEnd → Bool
keeps_line_end Kept = true
keeps_line_end Removed = false

-- the value of `--output` is standard output
abbrev pub is_standard_output : Text → Bool
is_standard_output file = list_any (λ name. bytes_eq name file) (codes "-" ∷ codes "/dev/stdout" ∷ [])

-- the outputs are printed: no option chooses another action, or `--output` is standard output
abbrev pub IsPrint : List Row → Type 0
IsPrint rows = IfSome (first_of (codes "output") rows) (λ file. is_standard_output file ≡ true)
    × (first_of (codes "output") rows ≡ None → (first_of (codes "output-folder") rows ≡ None)
    × IsFlag rows (codes "in-place") false × IsFlag rows (codes "check") false
    × IsFlag rows (codes "names") false)

-- the action that the options choose
abbrev pub IsAction : List Row → Action → Type 0
IsAction rows (WriteTo file) =
    (first_of (codes "output") rows ≡ Some file.now) × (is_standard_output file.now ≡ false)
IsAction rows (WriteInto directory) = first_of (codes "output-folder") rows ≡ Some directory.now
IsAction rows Replace = IsFlag rows (codes "in-place") true
IsAction rows Check = IsFlag rows (codes "check") true
IsAction rows ListNames = IsFlag rows (codes "names") true
IsAction rows Print = IsPrint rows

-- the value of `--escape` that chooses a language
abbrev pub escape_name : Escape → Option Text
escape_name Nothing = None
escape_name Json = Some (codes "json")
escape_name Sh = Some (codes "sh")

-- the format of rows that has this name, or none if no format has it
abbrev pub rows_format_named : Text → Option RowsFormat
rows_format_named name =
    if bytes_eq name (codes "csv") then Some Csv
    else if bytes_eq name (codes "tsv") then Some Tsv
    else if bytes_eq name (codes "jsonl") then Some JsonLines
    else None

-- the format of rows by a path's ending, or none if no format has the ending
abbrev pub rows_format_by_ending : Text → Option RowsFormat
rows_format_by_ending path =
    if ends_with nat_eq path (codes ".csv") then Some Csv
    else if ends_with nat_eq path (codes ".tsv") then Some Tsv
    else if ends_with nat_eq path (codes ".jsonl") then Some JsonLines
    else None

-- the format of the rows in a file: the one that `--rows-format` names if it is given, else the one by the
-- file's ending
abbrev pub rows_format : List Row → Text → Option RowsFormat
rows_format rows file =
    option_map_or rows_format_named (first_of (codes "rows-format") rows) (rows_format_by_ending file)

-- the value of `--nested` by which arrays and objects have values
abbrev pub nested_name : Bool → Option Text
nested_name false = None
nested_name true = Some (codes "json")

-- the options of rows are those of the arguments
abbrev pub HasRows : List Row → RowsOptions → Type 0
HasRows rows options = (first_of (codes "rows") rows ≡ Some options.file.now)
    × (rows_format rows options.file.now ≡ Some options.format)
    × (options.separator.now ≡ unwrap_or (first_of (codes "separator") rows) [])
    × IsFlag rows (codes "keep-going") options.keeps_going
    × (first_of (codes "nested") rows ≡ nested_name options.nested)

-- no option that needs `--rows` is given
abbrev pub NeedsNoRows : List Row → Type 0
NeedsNoRows rows = (first_of (codes "rows-format") rows ≡ None)
    × (first_of (codes "separator") rows ≡ None)
    × (first_of (codes "nested") rows ≡ None)
    × IsFlag rows (codes "keep-going") false

-- there are options of rows exactly if `--rows` is given, and they are those of the arguments; without
-- `--rows`, no option that needs it is given
abbrev pub AreRows : List Row → Option RowsOptions → Type 0
AreRows rows None = (first_of (codes "rows") rows ≡ None) × NeedsNoRows rows
AreRows rows (Some options) = HasRows rows options

-- an option that may be given once has at most one value
abbrev pub IsOnce : List Row → CommandOption → Type 0
IsOnce rows o = o.kind ≡ Once → length (option_values o.name rows) ≤ 1

-- no option that may be given once has more than one value
abbrev pub AreOnce : List Row → Type 0
AreOnce rows = All (IsOnce rows) options

-- no option that the option excludes is given together with it
abbrev pub IsAlone : List Row → CommandOption → Type 0
IsAlone rows o = All (λ other. (is_given o.name rows && is_given other rows) ≡ false) o.excludes

-- no two options that exclude each other are given
abbrev pub AreAlone : List Row → Type 0
AreAlone rows = All (IsAlone rows) options
