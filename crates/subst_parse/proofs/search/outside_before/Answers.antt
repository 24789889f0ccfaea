use Rattle.std.proofs.Common.{◌≡◌, ◌+◌, ◌-◌, ◌%◌, ℕ, ap, sym, ◌∙◌, subst, shr-shr, get_or, arith}
use Rattle.subst_parse.proofs.search.outside_before.Goals as goal

pub returns : goal.returns
returns g c =
    let P = g.C.ByteClass.is_in in
    let s = c.args.source.now in
    let by = 32 - (c.args.to - c.args.from) in
    let whole = c.outside_at.ensures in
    let shifted = λ (k : ℕ). ap (λ x. x % 2) (shr-shr c.outside_at.result by k) in
    let same = λ (k : ℕ). let e : c.args.to - 32 + (by + k) ≡ c.args.from + k = omega arith in e in
    record {
      inside = λ k below clear.
          subst (λ at. P (get_or s at 0)) (same k)
          (whole.inside (by + k) (omega arith) (sym (shifted k) ∙ clear));
      outside = λ k set.
          let found = whole.outside (by + k) (sym (shifted k) ∙ set) in
          (omega (arith, found.0), λ is. found.1 (subst (λ at. P (get_or s at 0)) (sym (same k)) is));
    }
