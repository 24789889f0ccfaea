-- The bucket is marked, and then the name is added. There is no map.
use Rattle.std.proofs.Common.{◌≡◌, IfSome, length, arith, rules, sym, subst}
use Rattle.subst_indexed.proofs.DistinctLemmas.{added_marked}
use Rattle.subst_indexed.specs.Names.{HasNumbers, name_bytes}
use Rattle.subst_indexed.proofs.names.Names.add.Goals as goal

pub invariant_of-self : goal.invariant_of-self
invariant_of-self c =
    let self = c.args.self.now in
    let long : length self.buckets ≡ 64 = search rules in
    let some : c.saturating_add.result ≡ 0 → ⊥ = λ none. absurd (omega (arith, c.saturating_add.ensures, none)) in
    let kept = added_marked c.push.result self.list.items c.push.new.self.items _ self.buckets c.args.bucket
    c.saturating_add.result c.push.ensures.items c.requires.bucket long some c.requires.new self.distinct
    self.marked
    in
    record {
      distinct = kept.0;
      marked = kept.1;
      numbered = subst (λ it. IfSome it (λ map. HasNumbers map (name_bytes c.push.new.self.items)))
          (sym (c.needs_map.ensures c.if-needs_map.false)) tt;
    }
