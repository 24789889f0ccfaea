-- An option that needs rows and isn't given has no value.
use Rattle.std.proofs.Common.{codes, subst, sym, ◌∙◌}
use Rattle.clap.specs.Words.{found_of, rows_of}
use Rattle.subst_options.proofs.ArgumentLemmas.{none_if}
use Rattle.subst_options.specs.CommandLine.{IsFlag}
use Rattle.subst_options.proofs.check_rows_named.Goals as goal

pub returns-else-has_flag : goal.returns-else-has_flag
returns-else-has_flag c = (
  none_if _ (sym c.is_set.ensures ∙ c.if-is_set.false),
  none_if _ (sym c.is_set-else-is_set.ensures ∙ c.if-is_set-2.false),
  none_if _ (sym c.is_set-else-is_set-2.ensures ∙ c.if-is_set-3.false),
  subst (IsFlag (rows_of (found_of c.args.matches.now)) (codes "keep-going")) c.if-has_flag.false
      c.has_flag.ensures,
)
