-- The part expected after the value is pushed.
use Rattle.std.proofs.Common.{[], ◌∷◌, ap, ap₂, ◌∙◌, reverse}
use Rattle.std.proofs.lemmas.List.{reverse-append}
use Rattle.subst_json.proofs.NestingLemmas.{begin_array_before, begin_object_before}
use Rattle.subst_json.proofs.nesting.Nesting.open.Goals as goal

pub returns-clause-array : goal.returns-clause-array
returns-clause-array c = λ is opened rest h.
    let old = c.args.self.now in
    let after = c.in-Some.after in
    let pushed = ap reverse c.in_ok-push.ensures.items ∙ reverse-append old.outer.items (after ∷ []) in
    begin_array_before old.next after c.in-Some.ensures (reverse old.outer.items) rest
    (c.args.inside ∷ reverse c.push.new.self.items) (ap₂ (λ x xs. x ∷ xs) is pushed) h

pub returns-clause-object : goal.returns-clause-object
returns-clause-object c = λ is opened rest h.
    let old = c.args.self.now in
    let after = c.in-Some.after in
    let pushed = ap reverse c.in_ok-push.ensures.items ∙ reverse-append old.outer.items (after ∷ []) in
    begin_object_before old.next after c.in-Some.ensures (reverse old.outer.items) rest
    (c.args.inside ∷ reverse c.push.new.self.items) (ap₂ (λ x xs. x ∷ xs) is pushed) h
