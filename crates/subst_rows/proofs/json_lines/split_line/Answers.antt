-- The first line feed ends the first line.
use Rattle.std.proofs.Common.{◌≡◌, ◌+◌, ◌-◌, [], take, drop, length, sym, ap, ◌∙◌, arith, length-drop}
use Rattle.std.proofs.lemmas.List.{drop_all, take_all}
use Rattle.subst_rows.specs.JsonLines.{row_if, rows_from}
use Rattle.subst_rows.proofs.JsonLineLemmas.{rows_at, rows_last}
use Rattle.subst_rows.proofs.ListLemmas.{not_true}
use Rattle.subst_rows.proofs.json_lines.split_line.Goals as goal

pub returns-in-Some-clause-split : goal.returns-in-Some-clause-split
returns-in-Some-clause-split c = λ number.
    let text = c.args.text.now in
    let at = c.in-Some.at in
    let found = c.in-Some.ensures in
    rows_at number at [] text 0 found.0.high (λ k small. not_true _ (found.0.before k (omega arith) small)) found.1
    ∙ ap (λ rest. row_if number (take at text) (rows_from (number + 1) [] rest))
    (sym (take_all (length text - (at + 1)) (drop (at + 1) text) (omega (arith, length-drop (at + 1) text))))

pub returns-in-None-clause-split : goal.returns-in-None-clause-split
returns-in-None-clause-split c = λ number.
    let text = c.args.text.now in
    let rest = take (length text - length text) (drop (length text) text) in
    let none : rest ≡ [] =
    ap (take (length text - length text)) (drop_all (length text) text (omega arith))
    ∙ take_all (length text - length text) [] (omega arith)
    in
    rows_last number text 0 (λ k small. not_true _ (c.in-None.ensures k (omega arith) small))
    ∙ ap (λ rest. row_if number text (rows_from (number + 1) [] rest)) (sym none)
