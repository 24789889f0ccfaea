-- One more variable agrees, or none is left.
use Rattle.std.proofs.Common.{◌≡◌, refl, arith}
use Rattle.subst_uses.specs.CommandLine.{texts_of}
use Rattle.subst_uses.proofs.NameLemmas.{one_more}
use Rattle.subst_uses.proofs.cache.agree.Goals as goal

pub loop-variable-preserved : goal.loop-variable-preserved
loop-variable-preserved c =
    one_more (λ v. texts_of c.args.a.now v.name.now ≡ texts_of c.args.b.now v.name.now)
    c.args.variables.now c.loop-variable.variable-index _ c.loop-variable-test.true c.loop-variable.invariant
    (c.has_same.ensures.0 c.if-not-has_same.false)

pub returns : goal.returns
returns c =
    let last = c.loop-variable-test.false in (
      λ _ k d inside. c.loop-variable.invariant k d
          (omega (arith, inside, last, c.loop-variable.auto.variable-index-end)),
      λ _. refl,
    )
