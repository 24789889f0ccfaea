use Rattle.std.proofs.Common.{◌≡◌, ◌∙◌, rules, sym}
use Rattle.subst_yaml.proofs.FilledLemmas.{to_end}
use Rattle.subst_yaml.proofs.compared.have_same_ends.Goals as goal

pub returns : goal.returns
returns c = λ eq.
    let same : c.part-tail.result.now ≡ c.part.result.now = search rules in
    sym (to_end c.args.texts.output.now c.args.at.output)
    ∙ (rw (c.part-tail.ensures, c.part.ensures) at same)
    ∙ to_end c.args.texts.source.now c.args.at.source
