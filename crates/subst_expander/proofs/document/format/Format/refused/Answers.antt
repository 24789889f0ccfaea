-- The strings are those of the library's result for the text, and are in it.
use Rattle.std.proofs.Common.{◌≡◌, Result, Err}
use Rattle.subst.specs.Yaml as yaml
use Rattle.subst_yaml.specs.declared.error.Fault.{Fault}
use Rattle.subst_expander.specs.Strings.{AnswersBy}
use Rattle.subst_expander.specs.declared.document.format.Format.TheVariants.{Json, Toml, Yaml}
use Rattle.subst_expander.proofs.DocumentLemmas.{json_display, json_reader, json_strings_in, json_string, of_listed, of_refused, same_unfilled, toml_display, toml_reader, toml_strings_in, toml_string, unfilled_weaker, yaml_display, yaml_strings_in}
use Rattle.subst_expander.proofs.YamlLemmas.{yaml_string}
use Rattle.std.proofs.lemmas.Option.{IfSome_then}
use Rattle.std.proofs.lemmas.Result.{IfErr-weaker, IfOk-weaker}
use Rattle.subst_expander.proofs.document.format.Format.refused.Goals as goal

pub returns-in_ok-found-in-Json-clause-strings : goal.returns-in_ok-found-in-Json-clause-strings
returns-in_ok-found-in-Json-clause-strings c =
    let text = c.args.text.now in
    let returned = c.refusals_by.result in
    rw c.in-Json.is (of_refused Json text json_display returned c.in_ok-found-in-Json.found c.with_paths.result
    (IfOk-weaker returned _ _ (λ list h. IfSome_then list h
    (λ list. json_strings_in (AnswersBy c.args.filler.now) text list.items)) c.refusals_by.ensures.listed.list)
    c.in_ok-found-in-Json.ensures.it c.with_paths.ensures.strings)

pub returns-in_ok-found-in-Json-clause-unfilled : goal.returns-in_ok-found-in-Json-clause-unfilled
returns-in_ok-found-in-Json-clause-unfilled c =
    let said = c.refusals_by.ensures.listed in
    rw c.in-Json.is (same_unfilled c.in_ok-found-in-Json.found c.with_paths.result _
    (IfErr-weaker c.in_ok-found-in-Json.found _ _ (unfilled_weaker _ _ _ _
    (λ is (d, reads, _). let none = json_reader c.refusals_by.result _ said.json is in absurd (cc))
    (λ is. (json_string c.refusals_by.result (λ _. ⊥) said.subst said.memory is).1))
    c.in_ok-found-in-Json.ensures.unfilled) c.with_paths.ensures.unfilled)

pub returns-in_ok-found-in-Toml-clause-strings : goal.returns-in_ok-found-in-Toml-clause-strings
returns-in_ok-found-in-Toml-clause-strings c =
    let text = c.args.text.now in
    let returned = c.refusals_by-in-Toml.result in
    rw c.in-Toml.is (of_refused Toml text toml_display returned c.in_ok-found-in-Toml.found
    c.with_paths-in-Toml.result
    (IfOk-weaker returned _ _ (λ list h. IfSome_then list h
    (λ list are. toml_strings_in text list.items are.found)) c.refusals_by-in-Toml.ensures.listed.list)
    c.in_ok-found-in-Toml.ensures.it c.with_paths-in-Toml.ensures.strings)

pub returns-in_ok-found-in-Toml-clause-unfilled : goal.returns-in_ok-found-in-Toml-clause-unfilled
returns-in_ok-found-in-Toml-clause-unfilled c =
    let said = c.refusals_by-in-Toml.ensures.listed in
    rw c.in-Toml.is (same_unfilled c.in_ok-found-in-Toml.found c.with_paths-in-Toml.result _
    (IfErr-weaker c.in_ok-found-in-Toml.found _ _ (unfilled_weaker _ _ _ _
    (λ is (ms, reads, _). let none = toml_reader c.refusals_by-in-Toml.result _ said.toml is in absurd (cc))
    (λ is. (toml_string c.refusals_by-in-Toml.result (λ _. ⊥) said.subst said.memory is).1))
    c.in_ok-found-in-Toml.ensures.unfilled) c.with_paths-in-Toml.ensures.unfilled)

pub returns-in_ok-found-in-Yaml-clause-strings : goal.returns-in_ok-found-in-Yaml-clause-strings
returns-in_ok-found-in-Yaml-clause-strings c =
    let text = c.args.text.now in
    let returned = c.refusals_by-in-Yaml.result in
    rw c.in-Yaml.is (of_listed Yaml text yaml_display returned c.in_ok-found-in-Yaml.found
    c.with_paths-in-Yaml.result
    (IfOk-weaker returned _ _ (λ list are. yaml_strings_in text list.items are.stand)
    c.refusals_by-in-Yaml.ensures.listed.list)
    c.in_ok-found-in-Yaml.ensures.it c.with_paths-in-Yaml.ensures.strings)

pub returns-in_ok-found-in-Yaml-clause-unfilled : goal.returns-in_ok-found-in-Yaml-clause-unfilled
returns-in_ok-found-in-Yaml-clause-unfilled c =
    let said = c.refusals_by-in-Yaml.ensures.listed in
    rw c.in-Yaml.is (same_unfilled c.in_ok-found-in-Yaml.found c.with_paths-in-Yaml.result _
    (IfErr-weaker c.in_ok-found-in-Yaml.found _ _ (unfilled_weaker _ _ _ _
    (λ is (es, reads, _). let none = is_none c.refusals_by-in-Yaml.result _ said.yaml is in absurd (cc))
    (λ is. (yaml_string c.refusals_by-in-Yaml.result (λ _. ⊥) said.subst said.memory is).1))
    c.in_ok-found-in-Yaml.ensures.unfilled) c.with_paths-in-Yaml.ensures.unfilled)
  where
    is_none : {T : Type 0} (returned : Result T yaml.Error) (P : Fault → Type 0)
        → yaml.Outcome.IfYaml returned P → (fault : Fault) × (returned ≡ Err (yaml.error.Yaml fault))
        → (fault : Fault) × P fault
    is_none returned P says (fault, is) = (fault, rw is at says)
