-- The format is the one that `clap` reads, or else the one for the file's ending.
use Rattle.std.proofs.Common.{ap, codes, sym, ◌∙◌}
use Rattle.std.specs.Option.{option_map_or}
use Rattle.clap.proofs.WalkLemmas.{first_value-rows}
use Rattle.clap.specs.Words.{found_of}
use Rattle.subst_options.specs.CommandLine.{rows_format_by_ending, rows_format_named}
use Rattle.subst_options.proofs.rows_format_of.Goals as goal

pub returns-in-Some-rows_format_named : goal.returns-in-Some-rows_format_named
returns-in-Some-rows_format_named c =
    let named = c.in-Some.ensures ∙ first_value-rows (found_of c.args.matches.now) (codes "rows-format") in
    ap (λ name. option_map_or rows_format_named name (rows_format_by_ending c.args.file.now)) (sym named)
    ∙ (sym c.rows_format_named.ensures ∙ c.in-Some-rows_format_named.is)

pub returns-in-Some-rows_format_by_ending : goal.returns-in-Some-rows_format_by_ending
returns-in-Some-rows_format_by_ending c =
    let unnamed = c.in_default.ensures ∙ first_value-rows (found_of c.args.matches.now) (codes "rows-format") in
    ap (λ name. option_map_or rows_format_named name (rows_format_by_ending c.args.file.now)) (sym unnamed)
    ∙ (ap rows_format_by_ending (sym c.as_bytes.ensures.value)
    ∙ (sym c.rows_format_by_ending.ensures ∙ c.in-Some-rows_format_by_ending.is))
