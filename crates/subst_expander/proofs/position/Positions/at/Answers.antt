-- An offset past the end has the position of the end.
use Rattle.std.proofs.Common.{◌≡◌, length, min, rules}
use Rattle.std.proofs.lemmas.List.{take_min}
use Rattle.std.proofs.lemmas.Result.{IfOk-weaker}
use Rattle.subst_expander.specs.Positions.{IsPositionAt}
use Rattle.subst_expander.specs.declared.position.Position.{Position}
use Rattle.subst_expander.proofs.position.Positions.at.Goals as goal

pub returns-clause-position : goal.returns-clause-position
returns-clause-position c =
    let s = c.args.self.now.source.now in
    let n = c.args.offset in
    let kept : c.advance.new.self.source.now ≡ s = search rules in
    let end : c.min-offset.result ≡ min n (length s) = search rules in
    let within = λ (at : Position). IsPositionAt s (min n (length s)) at.line at.column in
    IfOk-weaker c.after.result within (λ at. IsPositionAt s n at.line at.column)
    (λ at is. rw (take_min n s) at is) (rw (kept, end) at c.after.ensures)
