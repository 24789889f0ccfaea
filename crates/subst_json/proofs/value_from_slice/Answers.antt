-- The properties of the tree that was read, stated for the text.
use Rattle.std.proofs.Common.{◌≡◌, Some, rules}
use Rattle.serde_json.specs.Read.{read}
use Rattle.serde_json.specs.View.{view}
use Rattle.subst_language.specs.Calls.Clauses.{AnswersText}
use Rattle.subst_language.specs.Language.Several.{GivesBy, RefusesFirst}
use Rattle.subst_json.specs.Mapped.{strings, IsEach}
use Rattle.subst_json.proofs.ReadingLemmas.{returned_as_read, refused_as_read}
use Rattle.subst_json.proofs.value_from_slice.Goals as goal

pub returns-clause-ok : goal.returns-clause-ok
returns-clause-ok g c =
    let ask = AnswersText g.M.Value.AsStr.text g.M.VariableMap.see
    (g.M.VariableMap.look_up c.args.variables.now) in
    let is : read c.args.source.now ≡ Some (view c.in_ok-value.value) = search rules in
    returned_as_read c.args.source.now (view c.in_ok-value.value) is (IsEach (GivesBy ask)) c.fill_tree.result
    c.fill_tree.ensures.ok

pub returns-clause-subst : goal.returns-clause-subst
returns-clause-subst g c =
    let ask = AnswersText g.M.Value.AsStr.text g.M.VariableMap.see
    (g.M.VariableMap.look_up c.args.variables.now) in
    let is : read c.args.source.now ≡ Some (view c.in_ok-value.value) = search rules in
    refused_as_read c.args.source.now (view c.in_ok-value.value) is (λ d. RefusesFirst ask (strings d))
    c.fill_tree.result c.fill_tree.ensures.subst
