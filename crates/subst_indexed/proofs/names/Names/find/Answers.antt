-- By the bucket of the name.
use Rattle.std.proofs.Common.{◌≡◌, ◌-◌, get_or, sym, subst}
use Rattle.subst_indexed.proofs.DistinctLemmas.{not_marked, read_name}
use Rattle.subst_indexed.specs.Names.{name_bytes}
use Rattle.subst_indexed.proofs.names.Names.find.Goals as goal

pub returns-then-recent-eq0 : goal.returns-then-recent-eq0
returns-then-recent-eq0 c =
    let self = c.args.self.now in
    sym (not_marked (name_bytes self.list.items) self.buckets c.args.bytes.now self.marked
    (subst (λ bucket. get_or self.buckets bucket 0 ≡ 0) c.requires c.if-recent-eq0.true))

pub returns-then-eq : goal.returns-then-eq
returns-then-eq c =
    let self = c.args.self.now in
    let lookup = c.in-Some.ensures.lookup in
    let index = get_or self.buckets c.args.bucket 0 - 1 in
    sym (self.distinct index c.args.bytes.now
    (read_name self.list.items c.deref.result.now index c.in-Some.name.now c.args.bytes.now
    c.deref.ensures.value lookup.0 lookup.1 c.if-eq.ensures))
