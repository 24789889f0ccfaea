-- The place is that of the last byte.
use Rattle.std.proofs.Common.{◌-◌, length, sym, ap, ◌∙◌, arith}
use Rattle.subst_rows.specs.Quotes.{place_after}
use Rattle.subst_rows.proofs.QuoteLemmas.{place_by_last, quoted_stays}
use Rattle.subst_rows.proofs.quotes.place_after.Goals as goal

pub returns-in-Quoted : goal.returns-in-Quoted
returns-in-Quoted c =
    let is = c.in-Quoted.is in
    is ∙ sym (ap (λ p. place_after c.args.delimiter p c.args.bytes.now) is
    ∙ quoted_stays c.args.delimiter c.args.bytes.now)

pub returns-in_default : goal.returns-in_default
returns-in_default c =
    c.place_of_last.ensures
    ∙ sym (place_by_last c.args.delimiter c.args.place c.args.bytes.now (length c.args.bytes.now - 1)
    c.in_default.not-Quoted (omega arith))
