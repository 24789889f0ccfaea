-- The tree that was read is filled in and printed, and the conversion reads that text.
use Rattle.std.proofs.Common.{inr, string_bytes}
use Rattle.toml.specs.View.{members_view}
use Rattle.subst_language.specs.Calls.Clauses.{AnswersText}
use Rattle.subst_toml.proofs.ReadingLemmas.{read_from_printed, type_refused}
use Rattle.subst_toml.proofs.from_str.Goals as goal

pub returns-clause-ok : goal.returns-clause-ok
returns-clause-ok g c =
    let ask = AnswersText g.M.Value.AsStr.text g.M.VariableMap.see
    (g.M.VariableMap.look_up c.args.variables.now) in
    let shown = c.in_ok-text.ensures in
    read_from_printed ask _ (members_view c.in_ok-table.table.entries) (string_bytes c.in_ok-text.text)
    c.as_str.result.now g.T.FromText.reads _ c.in_ok-table.ensures.ok (shown.dates, shown.document, shown.table)
    c.as_str.ensures.value c.in_ok-from_text.ensures.read

pub returns-in_err-from_text-clause-toml : goal.returns-in_err-from_text-clause-toml
returns-in_err-from_text-clause-toml g c =
    let ask = AnswersText g.M.Value.AsStr.text g.M.VariableMap.see
    (g.M.VariableMap.look_up c.args.variables.now) in
    let shown = c.in_ok-text.ensures in
    let gone = c.from_residual-in_err-from_text in
    type_refused _ gone.result _ gone.ensures.1
    (inr (read_from_printed ask _ (members_view c.in_ok-table.table.entries) (string_bytes c.in_ok-text.text)
    c.as_str.result.now g.T.FromText.reads _ c.in_ok-table.ensures.ok
    (shown.dates, shown.document, shown.table) c.as_str.ensures.value c.in_err-from_text.ensures.read))
