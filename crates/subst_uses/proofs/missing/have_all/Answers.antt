-- One more name has a value, or none is left.
use Rattle.std.proofs.Common.{IsSome, refl, arith}
use Rattle.subst_uses.specs.CommandLine.{texts_of}
use Rattle.subst_uses.proofs.NameLemmas.{one_more}
use Rattle.subst_uses.proofs.missing.have_all.Goals as goal

pub loop-variable-preserved : goal.loop-variable-preserved
loop-variable-preserved c =
    one_more (λ v. IsSome (texts_of c.args.variables.now v.name.now)) c.args.needed.now
    c.loop-variable.variable-index _ c.loop-variable-test.true c.loop-variable.invariant
    (c.has.ensures.0 c.if-not-has.false)

pub returns : goal.returns
returns c =
    let last = c.loop-variable-test.false in (
      λ _ k d inside. c.loop-variable.invariant k d
          (omega (arith, inside, last, c.loop-variable.auto.variable-index-end)),
      λ _. refl,
    )
