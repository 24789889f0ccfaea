-- The line begins with a name, which is UTF-8, and then has `=`.
use Rattle.std.proofs.Common.{◌≤◌, ◌+◌, ◌∙◌, arith, length, sym}
use Rattle.std.proofs.lemmas.Grind.{common_steps}
use Rattle.std.proofs.lemmas.Result.{IfOk-weaker}
use Rattle.subst_expander.proofs.DotenvLineLemmas.{after_blanks_within, misnamed, named}
use Rattle.subst_expander.specs.DotenvLine.{least_len, line_of}
use Rattle.subst_expander.proofs.dotenv.line.named_line.Goals as goal
use Rattle.subst_language.proofs.Language.NameLemmas.{name_is_utf8}

pub returns-then-not-is_name-clause-line : goal.returns-then-not-is_name-clause-line
returns-then-not-is_name-clause-line c =
    rw c.wrong_message.ensures (misnamed c.is_name.result c.args.text.now c.split_name.result.0.now
    c.split_name.ensures.name c.is_name.ensures.name c.if-not-is_name.true)

pub returns-in_default-clause-line : goal.returns-in_default-clause-line
returns-in_default-clause-line c =
    let named = c.is_name.ensures.name.0 c.if-not-is_name.false in
    absurd (c.in_default.ensures.cases.0 (name_is_utf8 c.split_name.result.0.now named))

pub returns-clause-line : goal.returns-clause-line
returns-clause-line c =
    let begins = sym c.after_blanks.ensures ∙ c.in-Some.ensures.cases.0 in
    let is = named c.is_name.result c.args.text.now c.split_name.result.0.now c.split_name.result.1.now
    c.in-Some.value.now c.in-Ok.name.now c.in-Some.first.now c.split_name.ensures.name c.split_name.ensures.rest
    c.is_name.ensures.name c.if-not-is_name.false c.in-Ok.ensures.cases.0 begins c.if-first-ne61.false in
    rw is at c.value_line.ensures.line

pub returns-clause-shorter : goal.returns-clause-shorter
returns-clause-shorter c =
    let text = c.args.text.now in
    let value = c.in-Some.value.now in
    let within : length value + 1 ≤ length text =
    grind (
      arith,
      common_steps,
      after_blanks_within c.split_name.result.1.now,
      c.split_name.ensures.rest,
      c.after_blanks.ensures,
      c.in-Some.ensures.cases,
    ) in
    IfOk-weaker c.value_line.result (λ line. least_len (line_of line) ≤ length value + 1)
    (λ line. least_len (line_of line) ≤ length text) (λ line least. omega (arith, least, within))
    c.value_line.ensures.shorter
