-- The variables of a run, in order of precedence.
use Rattle.std.specs.Prelude.{◌++◌, List, [], filter, if◌then◌else◌, map, not, vec_items}
use Rattle.subst_expander.specs.Layers.{Entry, entries_of, environment_of, above, escaped, entries_of_pairs, in_order, is_empty}
use Rattle.subst_expander.specs.declared.layers.Layers.{Layers}
use Rattle.subst_options.specs.declared.Options.{Options}

-- the entries of the options and of `read` that have higher precedence than .env files; those of the
-- environment only if the options use it
abbrev pub above_for : Options → Layers → List Entry
above_for options read = above (entries_of_pairs options.pairs.items)
    (entries_of read.lines.items ++ entries_of read.named.items)
    (if options.environment then environment_of (map vec_items read.environment.items) else [])

-- the entries; if the options treat empty values as unset, only those whose value isn't empty
abbrev pub kept_for : Options → List Entry → List Entry
kept_for options all = if options.no_empty then filter (λ entry. not (is_empty entry)) all else all

-- the entries of a run, in order of precedence, with their values escaped
abbrev pub entries_for : Options → Layers → List Entry
entries_for options read = map (escaped options.escape) (kept_for options
    (in_order (above_for options read) (entries_of read.dotenv.items)
    (entries_of read.defaults.items ++ entries_of_pairs options.defaults.items)))

-- the entries that come before those of a row
abbrev pub first_for : Options → Layers → List Entry
first_for options read =
    kept_for options (above (entries_of_pairs options.pairs.items) (entries_of read.named.items) [])

-- the entries that come after those of a row
abbrev pub rest_for : Options → Layers → List Entry
rest_for options read = kept_for options
    (in_order (above [] (entries_of read.lines.items)
    (if options.environment then environment_of (map vec_items read.environment.items) else []))
    (entries_of read.dotenv.items)
    (entries_of read.defaults.items ++ entries_of_pairs options.defaults.items))
