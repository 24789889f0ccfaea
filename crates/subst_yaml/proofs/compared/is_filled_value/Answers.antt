use Rattle.std.proofs.Common.{inl}
use Rattle.subst_yaml.specs.Filled.{Stays}
use Rattle.subst_yaml.proofs.compared.is_filled_value.Goals as goal

pub returns-in-Ok-Kept : goal.returns-in-Ok-Kept
returns-in-Ok-Kept g c =
    let ask = g.F.Fill.answers c.args.filler.now in
    let stays : Stays ask c.args.value.style c.args.value.indent c.args.value.bytes.now =
    rw c.in-Ok-Kept.field-0-is at c.in-Ok-Kept.ensures.ok in
    let is = c.is_same_token.ensures in
    λ same. inl (is.style same, is.indent same, is.bytes same, stays)
