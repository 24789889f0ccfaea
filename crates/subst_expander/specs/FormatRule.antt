-- The format of a source: the same for all sources, or by the ending of the source's path.
use Rattle.std.specs.Prelude.{◌||◌, ◌-◌, ℕ, List, codes, if◌then◌else◌, length, nat_eq, string_bytes, take}
use Rattle.std.specs.List.{ends_with}
use Rattle.subst_expander.specs.declared.document.format.Format.TheVariants.{Json, Toml, Yaml}
use Rattle.subst_expander.specs.declared.format_rule.FormatRule.{FormatRule}
use Rattle.subst_expander.specs.declared.format_rule.FormatRule.TheVariants.{One, ByEnding}
use Rattle.subst_expander.specs.declared.kinds.InputFormat.{InputFormat}
use Rattle.subst_expander.specs.declared.kinds.InputFormat.TheVariants.{Text, Document}
use Rattle.subst_expander.specs.declared.source.Source.{Source}

-- the path without the suffix, or the whole path if it doesn't end in the suffix
abbrev pub without_suffix : List ℕ → List ℕ → List ℕ
without_suffix suffix path =
    if ends_with nat_eq path suffix then take (length path - length suffix) path else path

-- the format by a path's ending, or text if no format has the ending
abbrev pub format_by_ending : List ℕ → InputFormat
format_by_ending path =
    if ends_with nat_eq path (codes ".json") then Document Json
    else if ends_with nat_eq path (codes ".toml") then Document Toml
    else if ends_with nat_eq path (codes ".yaml") || ends_with nat_eq path (codes ".yml") then Document Yaml
    else Text

-- the format of a source, by its path
abbrev pub format_of_path : FormatRule → List ℕ → InputFormat
format_of_path (One format) path = format
format_of_path (ByEnding suffix) path = format_by_ending (without_suffix suffix.now path)

-- the format of a source
abbrev pub format_of_source : FormatRule → Source → InputFormat
format_of_source rule source = format_of_path rule (string_bytes source.path)
