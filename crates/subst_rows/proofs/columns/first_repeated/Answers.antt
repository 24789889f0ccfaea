-- No name is repeated, as the index has passed all of them.
use Rattle.std.proofs.Common.{arith}
use Rattle.subst_rows.proofs.ColumnLemmas.{repeated_within}
use Rattle.subst_rows.proofs.columns.first_repeated.Goals as goal

pub returns : goal.returns
returns c = λ index is.
    c.loop-index.invariant index (omega (arith, repeated_within c.args.head.now index is)) is
