-- The template's source is a sentence, so the value of its tree is its answer.
use Rattle.std.proofs.Common.{refl, rules}
use Rattle.subst_c.specs.Pairs.{pair_value}
use Rattle.subst_c.proofs.EachLemmas.{gives_value, refused_for_missing}
use Rattle.subst_c.proofs.each.append_by_name.Goals as goal

pub returns-in_err-bytes-clause-err : goal.returns-in_err-bytes-clause-err
returns-in_err-bytes-clause-err c =
    let is = c.in_err-bytes.ensures.sentence in
    refused_for_missing c.args.template.now (pair_value c.args.pairs.now) is.0 c.from_residual.result
    c.in_err-bytes.field-0.0 c.from_residual.ensures.1 is.1
    (c.in_err-bytes.ensures.value (λ v. v) (λ v. refl) is.0 is.1)

pub returns-clause-ok : goal.returns-clause-ok
returns-clause-ok c =
    let is = c.in_ok-bytes.ensures.sentence in
    let look = pair_value c.args.pairs.now in
    let given = c.in_ok-bytes.ensures.value (λ v. v) (λ v. refl) is.0 is.1 in (
      c.in_ok-bytes.bytes.items,
      gives_value c.args.template.now c.in_ok-bytes.bytes.items look is.0 is.1 given,
      search rules,
    )
