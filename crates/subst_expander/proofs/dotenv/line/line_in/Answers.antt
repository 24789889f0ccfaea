-- An empty line or a comment is shorter than its text, and so is the text after `export`.
use Rattle.std.proofs.Common.{◌≡◌, ◌≤◌, [], arith, length}
use Rattle.std.proofs.lemmas.Grind.{common_steps}
use Rattle.std.proofs.lemmas.Result.{IfOk-weaker}
use Rattle.subst_expander.proofs.DotenvLineLemmas.{after_blanks_within, shorter_after}
use Rattle.subst_expander.specs.DotenvLine.{least_len, line_of}
use Rattle.subst_expander.proofs.dotenv.line.line_in.Goals as goal

pub returns-then-is_ignored-clause-shorter : goal.returns-then-is_ignored-clause-shorter
returns-then-is_ignored-clause-shorter c some =
    let text = c.args.text.now in
    let begun = c.after_blanks-begun.result.now in
    let rest = c.first_line.result.1.now in
    let within : length begun ≤ length text =
    grind (arith, common_steps, after_blanks_within text, c.after_blanks-begun.ensures) in
    let none : begun ≡ [] → length rest ≡ 0 =
    λ empty. grind (arith, common_steps, c.first_line.ensures.rest, empty) in
    omega (arith, shorter_after begun (length rest) (length text) c.first_line.ensures.shorter none within some)

pub returns-clause-shorter : goal.returns-clause-shorter
returns-clause-shorter c some =
    let text = c.args.text.now in
    let begun = c.after_blanks-begun.result.now in
    let within : length c.without_export.result.now ≤ length text =
    grind (
      arith,
      common_steps,
      after_blanks_within text,
      c.after_blanks-begun.ensures,
      c.without_export.ensures.shorter,
    ) in
    IfOk-weaker c.named_line.result (λ line. least_len (line_of line) ≤ length c.without_export.result.now)
    (λ line. least_len (line_of line) ≤ length text) (λ line least. omega (arith, least, within))
    c.named_line.ensures.shorter
