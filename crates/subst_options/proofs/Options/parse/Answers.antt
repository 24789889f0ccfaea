-- Each option is what a function finds in the rows, which are those of the arguments.
use Rattle.std.proofs.Common.{◌≡◌, ◌≤◌, ◌∙◌, [], ap, codes, length, map, subst, sym, unwrap_or}
use Rattle.std.proofs.Math.Bool.{not-not}
use Rattle.clap.specs.Walk.{first_of, texts}
use Rattle.subst_options.proofs.ArgumentLemmas.{one_file}
use Rattle.subst_options.specs.Arguments.{borrowed_pair, files_or_input, pair_in, text_pair}
use Rattle.subst_options.specs.CommandLine.{AreAlone, AreOnce, AreRows, IsAction, IsFlag, asked_by, escape_name, keeps_line_end, option_values}
use Rattle.subst_options.proofs.Options.parse.Goals as goal

pub returns : goal.returns
returns c =
    let same = c.in_ok-matches.ensures.rows in record {
      pairs = subst (λ rows. map text_pair c.in_ok-pairs_of.field-0.items
          ≡ map pair_in (option_values (codes "set") rows)) same c.in_ok-pairs_of.ensures;
      named_files = subst (λ rows. map borrowed_pair c.in_ok-named_files_of.field-0.items
          ≡ map pair_in (option_values (codes "set-file") rows)) same c.in_ok-named_files_of.ensures;
      values_files = subst (λ rows. texts c.in_ok-list.field-0.items ≡ option_values (codes "values") rows) same
          c.in_ok-list.ensures;
      line_end = subst (λ rows. IsFlag rows (codes "keep-line-end") (keeps_line_end c.line_end_of.result)) same
          c.line_end_of.ensures;
      environment = subst (λ rows. IsFlag rows (codes "env") c.has_flag.result) same c.has_flag.ensures;
      dotenv_files = subst (λ rows. texts c.in_ok-list-2.field-0.items ≡ option_values (codes "dotenv") rows) same
          c.in_ok-list-2.ensures;
      defaults = subst (λ rows. map text_pair c.in_ok-pairs_of-2.field-0.items
          ≡ map pair_in (option_values (codes "default") rows)) same c.in_ok-pairs_of-2.ensures;
      defaults_files = subst (λ rows. texts c.in_ok-list-3.field-0.items ≡ option_values (codes "defaults") rows)
          same c.in_ok-list-3.ensures;
      rows = subst (λ rows. AreRows rows c.in_ok-rows_of_template.field-0) same
          c.in_ok-rows_of_template.ensures.rows;
      one_template = λ some. one_file c.in_ok-or_standard_input.field-0.items c.in_ok-files.files.items
          c.in_ok-or_standard_input.ensures.inputs
          (subst (λ files. length files ≤ 1) c.deref-2.ensures.value
          (c.in_ok-rows_of_template.ensures.one_template some));
      no_empty = subst (λ rows. IsFlag rows (codes "no-empty") c.has_flag-2.result) same c.has_flag-2.ensures;
      escape = subst (λ rows. first_of (codes "escape") rows ≡ escape_name c.in_ok-escape_of.field-0) same
          c.in_ok-escape_of.ensures;
      hints_unset = subst (IsFlag (asked_by c.args.arguments.now) (codes "optional"))
          (sym (not-not c.has_flag-3.result))
          (subst (λ rows. IsFlag rows (codes "optional") c.has_flag-3.result) same c.has_flag-3.ensures);
      action = subst (λ rows. IsAction rows c.action_of-action.result) same c.action_of-action.ensures;
      suffix = subst (λ rows. c.in_ok-suffix.suffix.now ≡ unwrap_or (first_of (codes "strip") rows) []) same
          c.in_ok-suffix.ensures;
      inputs = c.in_ok-or_standard_input.ensures.inputs ∙ ap files_or_input
          (subst (λ rows. texts c.in_ok-files.files.items ≡ option_values (codes "files") rows) same
          c.in_ok-files.ensures);
      alone = subst AreAlone same c.in_ok-matches.ensures.alone;
      once = subst AreOnce same c.in_ok-matches.ensures.once;
      files = c.in_ok-or_standard_input.ensures.some;
    }
