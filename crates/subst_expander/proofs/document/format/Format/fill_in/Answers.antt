-- The result is the library's for the text, by the entries of the variables.
use Rattle.std.proofs.Common.{List, ℕ, string_bytes}
use Rattle.std.proofs.lemmas.Option.{IfSome_then}
use Rattle.std.proofs.lemmas.Result.{IfOk-weaker}
use Rattle.subst.proofs.Calling.{document_weaker, toml_document_weaker}
use Rattle.subst.specs.Language.Answer.{Gives}
use Rattle.subst_expander.specs.Strings.{AnswersBy}
use Rattle.subst_expander.proofs.DocumentLemmas.{json_reader, json_string, toml_reader, toml_string, unfilled_weaker}
use Rattle.subst_expander.proofs.ExpansionLemmas.{returned, weaker_faults}
use Rattle.subst_expander.proofs.YamlLemmas.{yaml_output, yaml_reader, yaml_string}
use Rattle.subst_expander.proofs.document.format.Format.fill_in.Goals as goal

pub returns-in-Json-clause-output : goal.returns-in-Json-clause-output
returns-in-Json-clause-output c = λ entries from.
    let gives = λ (s x : List ℕ) (it : AnswersBy c.args.filler.now s (Gives x)). it.1 entries from in
    rw c.in-Json.is (returned c.fill_in_by.result c.of_json.result _ c.of_json.ensures.it
    (IfOk-weaker c.fill_in_by.result _ _ (λ it h. IfSome_then it h
    (λ output. document_weaker _ _ gives _ (string_bytes output))) c.fill_in_by.ensures.filled.output))

pub returns-in-Json-clause-unfilled : goal.returns-in-Json-clause-unfilled
returns-in-Json-clause-unfilled c =
    let said = c.fill_in_by.ensures.filled in
    rw c.in-Json.is (weaker_faults c.of_json.result _ _ (unfilled_weaker _ _ _ _
    (λ is (d, reads, _). let none = json_reader c.fill_in_by.result _ said.json is in absurd (cc))
    (json_string c.fill_in_by.result _ said.subst said.memory)) c.of_json.ensures.unfilled)

pub returns-in-Toml-clause-output : goal.returns-in-Toml-clause-output
returns-in-Toml-clause-output c = λ entries from.
    let gives = λ (s x : List ℕ) (it : AnswersBy c.args.filler.now s (Gives x)). it.1 entries from in
    rw c.in-Toml.is (returned c.fill_in_by-in-Toml.result c.of_toml.result _ c.of_toml.ensures.it
    (IfOk-weaker c.fill_in_by-in-Toml.result _ _ (λ it h. IfSome_then it h
    (λ output. toml_document_weaker _ _ gives _ (string_bytes output))) c.fill_in_by-in-Toml.ensures.filled.output))

pub returns-in-Toml-clause-unfilled : goal.returns-in-Toml-clause-unfilled
returns-in-Toml-clause-unfilled c =
    let said = c.fill_in_by-in-Toml.ensures.filled in
    rw c.in-Toml.is (weaker_faults c.of_toml.result _ _ (unfilled_weaker _ _ _ _
    (λ is (ms, reads, _). let none = toml_reader c.fill_in_by-in-Toml.result _ said.toml is in absurd (cc))
    (toml_string c.fill_in_by-in-Toml.result _ said.subst said.memory)) c.of_toml.ensures.unfilled)

pub returns-in-Ok-Some-clause-output : goal.returns-in-Ok-Some-clause-output
returns-in-Ok-Some-clause-output c = λ entries from.
    let is = rw (c.in-Ok-Some.is, c.in-Ok-Some.field-0-is) at c.in_ok-output-in-Yaml.ensures.it in
    rw c.in-Yaml.is (yaml_output c.args.filler.now entries from c.args.text.now (string_bytes c.in-Ok-Some.output)
    (rw is at c.fill_in_by-in-Yaml.ensures.filled.output))

pub returns-in-Err-clause-unfilled : goal.returns-in-Err-clause-unfilled
returns-in-Err-clause-unfilled c =
    let said = c.fill_in_by-in-Yaml.ensures.filled in
    rw c.in-Yaml.is (unfilled_weaker _ _ _ _
    (yaml_reader c.args.text.now c.utf8.text c.fill_in_by-in-Yaml.result said.yaml)
    (yaml_string c.fill_in_by-in-Yaml.result _ said.subst said.memory) c.in-Err.why
    (rw c.in-Err.is at c.in_ok-output-in-Yaml.ensures.unfilled))
