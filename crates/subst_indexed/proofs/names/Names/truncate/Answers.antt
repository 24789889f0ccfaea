-- The first of the names are as distinct, and as marked. There is no map.
use Rattle.std.proofs.Common.{sym, subst}
use Rattle.subst_indexed.proofs.DistinctLemmas.{distinct_take, marked_take}
use Rattle.subst_indexed.specs.Names.{AreDistinct, AreMarked, name_bytes}
use Rattle.subst_indexed.proofs.names.Names.truncate.Goals as goal

pub invariant_of-self : goal.invariant_of-self
invariant_of-self c =
    let self = c.args.self.now in
    record {
      distinct = subst (λ it. AreDistinct (name_bytes it)) (sym c.truncate.ensures.items)
          (distinct_take self.list.items c.args.len self.distinct);
      marked = subst (λ it. AreMarked (name_bytes it) self.buckets) (sym c.truncate.ensures.items)
          (marked_take self.list.items c.args.len self.buckets self.marked);
      numbered = tt;
    }
