-- The fault is one of the source, so its range ends within it.
use Rattle.std.proofs.Common.{arith, rules}
use Rattle.subst_c.proofs.EachLemmas.{refused_within}
use Rattle.subst_c.proofs.subst_bytes_each.Goals as goal

pub refuse-result-requires : goal.refuse-result-requires
refuse-result-requires c =
    omega (
      arith,
      refused_within c.args.source.now c.args.rows.now c.in-Err.refusal.row c.in-Err.refusal.error
          c.in-Err.ensures.err,
    )

pub returns-after-result-eq-REFUSED-clause-fault : goal.returns-after-result-eq-REFUSED-clause-fault
returns-after-result-eq-REFUSED-clause-fault c = record {
  refused = search rules;
  within = λ is.
      omega (
        arith,
        c.refuse-result.ensures.end is,
        refused_within c.args.source.now c.args.rows.now c.in-Err.refusal.row c.in-Err.refusal.error
            c.in-Err.ensures.err,
      );
  fault_kept = c.refuse-result.ensures.kept;
}
