-- The values are those of all names.
use Rattle.std.proofs.Common.{arith}
use Rattle.subst_cli.proofs.LetterLemmas.{by_number, taken}
use Rattle.subst_cli.proofs.letters.values_of.Goals as goal

pub returns : goal.returns
returns c = by_number c.loop-name.values.items c.args.names.now _
    (rw (taken c.args.names.now c.loop-name.name-index (omega (arith, c.loop-name-test.false)))
    at c.loop-name.invariant)
