-- The options of the table are those of the definition.
use Rattle.std.proofs.Common.{◌≡◌, ◌∙◌, Some, [], ap, refl, true}
use Rattle.std.proofs.lemmas.Result.{IfOk-weaker}
use Rattle.clap.specs.Simple.{App, app_of_fields}
use Rattle.clap.specs.Walk.{Rule, rule_of}
use Rattle.clap.specs.Words.{app_of}
use Rattle.clap.specs.declared.builder.action.ArgAction.TheVariants.{Append}
use Rattle.clap.specs.declared.builder.arg.Arg.{Arg}
use Rattle.subst_options.proofs.CommandLemmas.{command_app, command_exclusions}
use Rattle.subst_options.specs.CommandLine.{app_with, files_rule, options}
use Rattle.subst_options.proofs.command.Goals as goal

pub returns : goal.returns
unfolding options
returns c =
    let named = ap app_of_fields c.version.ensures
    ∙ ap (λ (a : App). record a { top = record a.top { has_version = true } }) c.new.ensures.app in
    let told = ap app_of_fields c.after_help.ensures ∙ (ap app_of_fields c.about.ensures ∙ named) in
    let begins : app_of c.args_override_self-command.result ≡ app_with [] =
    ap app_of_fields c.args_override_self-command.ensures
    ∙ ap (λ (a : App). record a { top = record a.top { args_override_self = true } }) told in
    let rule : rule_of c.action-files.result ≡ files_rule = ap rule_of c.action-files.ensures
    ∙ ap (λ (r : Rule). record r { action = Some Append }) (ap rule_of c.help.ensures
    ∙ (ap rule_of c.value_name.ensures ∙ ap (λ (r : Rule). record r { value_names = 1 }) c.new-2.ensures.rule)) in
    let local = ap (λ (a : Arg). a.global) c.action-files.ensures
    ∙ (ap (λ (a : Arg). a.global) c.help.ensures
    ∙ (ap (λ (a : Arg). a.global) c.value_name.ensures ∙ c.new-2.ensures.optional.1)) in
    let none = ap (λ (a : Arg). a.conflicts.items) c.action-files.ensures
    ∙ (ap (λ (a : Arg). a.conflicts.items) c.help.ensures
    ∙ (ap (λ (a : Arg). a.conflicts.items) c.value_name.ensures ∙ c.new-2.ensures.plain.1)) in
    record {
      app = IfOk-weaker c.arg.result _ _ (λ m adds. command_app _ _ _ _ _ begins
          c.in_ok-with_options.ensures.app rule (adds.shape local) refl) c.arg.ensures;
      excludes = IfOk-weaker c.arg.result _ _ (λ m adds. command_exclusions _ _ _ _ _ begins
          c.in_ok-with_options.ensures.excludes rule none adds refl) c.arg.ensures;
    }
