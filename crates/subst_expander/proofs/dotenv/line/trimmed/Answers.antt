-- A trailing blank is removed, and bytes without one are unchanged.
use Rattle.std.proofs.Common.{sym, ◌∙◌}
use Rattle.subst_expander.proofs.DotenvLineLemmas.{trimmed_blank, trimmed_kept}
use Rattle.subst_expander.proofs.dotenv.line.trimmed.Goals as goal

pub returns-then-not-is_blank : goal.returns-then-not-is_blank
returns-then-not-is_blank c =
    let other = sym c.is_blank.ensures ∙ c.if-not-is_blank.true in
    trimmed_kept c.loop-last.rest.now c.in-Some.front.now c.in-Some.last.now c.in-Some.ensures.cases.0 other
    ∙ sym c.loop-last.invariant

pub loop-last-preserved : goal.loop-last-preserved
loop-last-preserved c =
    let blank = sym c.is_blank.ensures ∙ c.if-not-is_blank.false in
    c.loop-last.invariant
    ∙ trimmed_blank c.loop-last.rest.now c.in-Some.front.now c.in-Some.last.now c.in-Some.ensures.cases.0 blank
