-- The options are those that `clap` reads.
use Rattle.std.proofs.Common.{codes, subst, sym, ◌∙◌}
use Rattle.clap.proofs.WalkLemmas.{first_value-rows}
use Rattle.clap.specs.Words.{found_of, rows_of}
use Rattle.subst_options.proofs.ParsedLemmas.{printed, printed_by_default}
use Rattle.subst_options.specs.CommandLine.{IsFlag}
use Rattle.subst_options.proofs.action_of.Goals as goal

pub returns-then-contains : goal.returns-then-contains
returns-then-contains c =
    let file = sym (c.in-Some.ensures ∙ first_value-rows (found_of c.args.matches.now) (codes "output")) in
    printed (rows_of (found_of c.args.matches.now)) c.in-Some.file.now file
    (sym c.contains.ensures.value ∙ c.if-contains.true)

pub returns-else-contains : goal.returns-else-contains
returns-else-contains c = (
  sym (c.in-Some.ensures ∙ first_value-rows (found_of c.args.matches.now) (codes "output")),
  sym c.contains.ensures.value ∙ c.if-contains.false,
)

pub returns-in-Some-get_str : goal.returns-in-Some-get_str
returns-in-Some-get_str c =
    sym (c.in-Some-get_str.ensures ∙ first_value-rows (found_of c.args.matches.now) (codes "output-folder"))

pub returns-else-has_flag-3 : goal.returns-else-has_flag-3
returns-else-has_flag-3 c =
    let rows = rows_of (found_of c.args.matches.now) in
    let first = first_value-rows (found_of c.args.matches.now) in
    printed_by_default rows (sym (c.in_default.ensures ∙ first (codes "output")))
    (sym (c.in_default-get_str.ensures ∙ first (codes "output-folder")))
    (subst (IsFlag rows (codes "in-place")) c.if-has_flag.false c.has_flag.ensures)
    (subst (IsFlag rows (codes "check")) c.if-has_flag-2.false c.has_flag-else-has_flag.ensures)
    (subst (IsFlag rows (codes "names")) c.if-has_flag-3.false c.has_flag-else-has_flag-2.ensures)
