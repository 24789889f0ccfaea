-- By the first three bytes.
use Rattle.std.proofs.Common.{◌-◌, true, false, drop, length, length-drop, sym, ◌∙◌, arith}
use Rattle.std.proofs.lemmas.List.{take_all}
use Rattle.subst_rows.proofs.RecordsLemmas.{mark_at, no_mark}
use Rattle.subst_rows.proofs.mark.without_mark.Goals as goal

pub returns-then-text-lt3 : goal.returns-then-text-lt3
returns-then-text-lt3 c = sym (no_mark c.args.text.now c.if-text-lt3.true)

pub returns-then-is_mark : goal.returns-then-is_mark
returns-then-is_mark c =
    let text = c.args.text.now in
    take_all (length text - 3) (drop 3 text) (omega (arith, length-drop 3 text))
    ∙ sym (mark_at text 0 c.if-text-lt3.false true (sym c.if-is_mark.ensures))

pub returns-else-is_mark : goal.returns-else-is_mark
returns-else-is_mark c =
    sym (mark_at c.args.text.now 0 c.if-text-lt3.false false (sym c.if-is_mark.ensures))
