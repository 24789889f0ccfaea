use Rattle.std.proofs.Common.{List, sym, subst}
use Rattle.subst_language.specs.Parts.Meaning.{IsTemplateOf}
use Rattle.subst_language.specs.declared.part.Part.{Part}
use Rattle.subst_template.proofs.parse.parse_packed.Goals as goal

pub returns-in-Ok-clause-ok : goal.returns-in-Ok-clause-ok
returns-in-Ok-clause-ok g c =
    let done = (rw c.in-Ok.is at c.parse_into-parts.ensures.ok) tt c.empty_list-list.ensures in
    subst (λ (parts : List Part). IsTemplateOf c.args.source.now parts) (sym done.held) done.template
