-- The options are those that `clap` reads.
use Rattle.std.proofs.Common.{codes, sym, ◌∙◌}
use Rattle.clap.proofs.WalkLemmas.{first_value-rows}
use Rattle.clap.specs.Words.{found_of}
use Rattle.subst_options.proofs.ArgumentLemmas.{text_or}
use Rattle.subst_options.proofs.rows_of_template.Goals as goal

pub returns-in_default-clause-rows : goal.returns-in_default-clause-rows
returns-in_default-clause-rows c = (
  sym (c.in_default.ensures ∙ first_value-rows (found_of c.args.matches.now) (codes "rows")),
  c.in_ok-check_rows_named.ensures,
)

pub returns-clause-rows : goal.returns-clause-rows
returns-clause-rows c =
    let first = first_value-rows (found_of c.args.matches.now) in (
      sym (c.in-Some.ensures ∙ first (codes "rows")),
      c.in_ok-rows_format_of.ensures,
      text_or c.get_str-2.result _ c.unwrap_or.result _ c.unwrap_or.ensures
          (c.get_str-2.ensures ∙ first (codes "separator")),
      c.has_flag.ensures,
      c.in_ok-is_nested.ensures,
    )
