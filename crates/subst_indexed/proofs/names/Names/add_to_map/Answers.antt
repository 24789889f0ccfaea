-- The bucket is marked, and then the name is added to the list and to the map.
use Rattle.std.proofs.Common.{◌≡◌, ◌++◌, ◌∷◌, [], IfSome, None, length, arith, rules, sym, subst, ap, ◌∙◌}
use Rattle.std.proofs.lemmas.List.{length-map}
use Rattle.subst_indexed.proofs.DistinctLemmas.{added_marked}
use Rattle.subst_indexed.proofs.NumberMapLemmas.{has_numbers-push}
use Rattle.subst_indexed.proofs.NumberingLemmas.{name_bytes-push}
use Rattle.subst_indexed.specs.Names.{HasNumbers, name_bytes}
use Rattle.subst_indexed.specs.Numbering.{number_of}
use Rattle.subst_indexed.specs.declared.names.Name.{Name}
use Rattle.subst_indexed.proofs.names.Names.add_to_map.Goals as goal

pub invariant_of-self : goal.invariant_of-self
invariant_of-self c =
    let self = c.take_map.new.self in
    let before : length c.args.self.now.buckets ≡ 64 = search rules in
    let long = ap length c.take_map.ensures.buckets ∙ before in
    let some : c.saturating_add.result ≡ 0 → ⊥ = λ none. absurd (omega (arith, c.saturating_add.ensures, none)) in
    let new = subst (λ it. number_of (name_bytes it) c.args.bytes.now ≡ None) (sym c.take_map.ensures.list)
    c.requires.new
    in
    let kept = added_marked c.push.result self.list.items c.push.new.self.items _ self.buckets c.args.bucket
    c.saturating_add.result c.push.ensures.items c.requires.bucket long some new self.distinct self.marked
    in
    record {
      distinct = kept.0;
      marked = kept.1;
      numbered = subst (λ it. IfSome self.numbers (λ map. HasNumbers map (name_bytes it)))
          (sym c.in_err-push.ensures.items) self.numbered;
    }

pub invariant_of-self-2 : goal.invariant_of-self-2
invariant_of-self-2 c =
    let self = c.take_map.new.self in
    let list = c.args.self.now.list.items in
    let same = c.take_map.ensures.list in
    let before : length c.args.self.now.buckets ≡ 64 = search rules in
    let long = ap length c.take_map.ensures.buckets ∙ before in
    let some : c.saturating_add.result ≡ 0 → ⊥ = λ none. absurd (omega (arith, c.saturating_add.ensures, none)) in
    let new = subst (λ it. number_of (name_bytes it) c.args.bytes.now ≡ None) (sym same) c.requires.new in
    let kept = added_marked c.push.result self.list.items c.push.new.self.items _ self.buckets c.args.bucket
    c.saturating_add.result c.push.ensures.items c.requires.bucket long some new self.distinct self.marked
    in
    let name : Name = record { start = c.args.start; bytes = c.args.bytes } in
    let all = name_bytes-push list c.push.new.self.items name
    (c.in_ok-push.ensures.items ∙ ap (λ it. it ++ name ∷ []) same)
    in
    let counted : c.in_ok-number.number ≡ length list = search rules in
    let next = counted ∙ sym (length-map list (λ it. it.bytes.now)) in
    record {
      distinct = kept.0;
      marked = kept.1;
      numbered = subst (HasNumbers c.insert.new.map) (sym all)
          (has_numbers-push c.in_ok-map.map c.insert.new.map (name_bytes list) c.args.bytes.now
          c.in_ok-number.number c.in_ok-map.ensures.numbers c.requires.new next c.in_ok-insert.ensures);
    }
