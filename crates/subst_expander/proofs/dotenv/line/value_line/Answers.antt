-- A quoted value begins after its quote.
use Rattle.std.proofs.Common.{◌≤◌, ◌+◌, arith, length}
use Rattle.std.proofs.lemmas.Grind.{common_steps}
use Rattle.std.proofs.lemmas.Result.{IfOk-weaker}
use Rattle.subst_expander.proofs.DotenvLineLemmas.{after_blanks_within, quoted}
use Rattle.subst_expander.specs.DotenvLine.{least_len, line_of}
use Rattle.subst_expander.proofs.dotenv.line.value_line.Goals as goal

pub returns-in-Single : goal.returns-in-Single
returns-in-Single c =
    let text = c.args.text.now in
    let rest = c.opening-quote.result.1.now in
    let line = rw (c.opening-quote.ensures.rest, c.after_blanks.ensures) at c.quoted_line.ensures.line in
    let is = quoted c.opening-quote.result.0 c.args.name.now text c.in-Single.is in
    let within : length rest ≤ length text =
    grind (arith, common_steps, after_blanks_within text, c.opening-quote.ensures.rest, c.after_blanks.ensures) in
    record {
      line = rw (c.after_blanks.ensures) at (rw (is, c.opening-quote.ensures.quote) at line);
      shorter = IfOk-weaker c.quoted_line.result (λ line. least_len (line_of line) ≤ length rest + 1)
          (λ line. least_len (line_of line) ≤ length text + 1) (λ line least. omega (arith, least, within))
          c.quoted_line.ensures.shorter;
    }
