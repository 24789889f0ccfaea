-- The tokens of the values are those of the events.
use Rattle.std.proofs.Common.{◌≡◌, rules, ap, ◌∙◌}
use Rattle.std.proofs.lemmas.Result.{IfOk-weaker}
use Rattle.subst_yaml_reader.specs.declared.event.Event.TheVariants.{Value}
use Rattle.subst_yaml.proofs.FilledLemmas.{filled_value}
use Rattle.subst_yaml.proofs.compared.is_filled_event.Goals as goal

pub returns-else-in_flow-other_in_flow : goal.returns-else-in_flow-other_in_flow
returns-else-in_flow-other_in_flow g c =
    let ask = g.F.Fill.answers c.args.filler.now in
    let source = c.args.texts.source.now in
    let output = c.args.texts.output.now in
    let it = c.in-Value-Value in
    let flow : it.other_in_flow ≡ it.in_flow = search rules in
    let is : c.args.event ≡ Value it.style it.span it.in_flow it.indent = search rules in
    let other_is : c.args.other ≡ Value it.other_style it.other it.other_in_flow it.other_indent = search
    rules in
    IfOk-weaker c.is_filled_value.result _ _
    (λ same h true. filled_value ask source output c.args.event c.args.other
    it.style it.span it.in_flow it.indent it.other_style it.other it.other_indent is
    (other_is ∙ ap (λ b. Value it.other_style it.other b it.other_indent) flow) (h true))
    (rw (c.token_at.ensures, c.token_at-in-Value-Value.ensures) at c.is_filled_value.ensures)
