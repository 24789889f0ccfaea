-- Each call of the builder changes one field of the rule.
use Rattle.std.proofs.Common.{◌∙◌, Some, ap, map, refl}
use Rattle.clap.specs.Simple.{new_rule}
use Rattle.clap.specs.Walk.{Rule, is_empty, rule_of}
use Rattle.clap.specs.declared.builder.action.ArgAction.TheVariants.{Append, SetTrue}
use Rattle.clap.specs.declared.builder.arg.Arg.{Arg}
use Rattle.subst_options.proofs.CommandLemmas.{excluding_rule, flag_rule, valued_rule}
use Rattle.subst_options.proofs.table.Row.to_arg.Goals as goal
use Rattle.subst_options.proofs.table.Row.to_arg.Goals.{in-Some, in-None}

pub returns-clause-rule : goal.returns-clause-rule
returns-clause-rule c =
    let row = c.args.self.now in
    let headed = c.help_heading.ensures
    ∙ ap (λ (a : Arg). record a { help_heading = Some (Some row.heading) })
    (c.help.ensures ∙ ap (λ (a : Arg). record a { help = Some row.help }) c.long.ensures) in
    let named = ap rule_of headed
    ∙ ap (λ (r : Rule). record r { long = Some row.long.now }) c.new.ensures.rule in
    let none = ap (λ (a : Arg). a.conflicts.items) headed ∙ c.new.ensures.plain.1 in
    let excludes = excluding_rule c.help_heading.result c.in_ok-arg.arg _ row.conflicts.now named refl none
    c.in_ok-arg.ensures in
    let short = c.with_short-arg.ensures (ap (λ (r : Rule). r.short) excludes) in
    let shortened = ap rule_of short ∙ ap (λ (r : Rule). record r { short = row.short }) excludes in
    let rule : Rule = record (new_rule row.long.now) {
      long = Some row.long.now;
      short = row.short;
      is_free = is_empty (map (λ name. name.now) row.conflicts.now);
    } in
    elim c.match-self.branch [
      | in-Some w ↦
          let last = w.result-is ∙ (w.action.ensures
          ∙ ap (λ (a : Arg). record a { action = Some Append }) w.value_name.ensures) in
          ap rule_of last
          ∙ (ap (λ (r : Rule). record r { action = Some Append; value_names = 1 }) shortened
          ∙ valued_rule row.takes _ rule w.in-Some.is)
      | in-None w ↦
          let last = w.result-is ∙ w.action-in-None.ensures in
          ap rule_of last ∙ (ap (λ (r : Rule). record r { action = Some SetTrue }) shortened
          ∙ flag_rule row.takes rule w.in-None.is)
    ]
