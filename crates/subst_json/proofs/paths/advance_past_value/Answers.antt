-- The last step is replaced by the next one.
use Rattle.std.proofs.Common.{◌≡◌, ◌+◌, ◌∷◌, sym, ap, refl, rules}
use Rattle.subst_document.specs.Paths.{Index}
use Rattle.subst_document.specs.declared.path_step.PathStep.TheVariants as steps
use Rattle.subst_json.proofs.ListedLemmas.{nothing_popped, path_of, value_passed}
use Rattle.subst_json.proofs.paths.advance_past_value.Goals as goal

pub returns-in-None : goal.returns-in-None
returns-in-None c = λ _. nothing_popped c.args.steps.now.items c.pop.new.self.items (search rules)
    (search rules)

pub returns-in_ok-push-in-Some-Key : goal.returns-in_ok-push-in-Some-Key
returns-in_ok-push-in-Some-Key c = λ _.
    let step = steps.Key c.in-Some-Key.key in
    value_passed c.pop.new.self.items c.args.steps.now.items c.push.new.self.items step step (search rules)
    (search rules) refl

pub returns-in_ok-push-in-Some-Index : goal.returns-in_ok-push-in-Some-Index
returns-in_ok-push-in-Some-Index c = λ _.
    let front = c.pop.new.self.items in
    let next : c.in-Some.next ≡ c.in-Some-Index.index + 1 = search rules in
    value_passed front c.args.steps.now.items c.push-in-Some-Index.new.self.items
    (steps.Index c.in-Some-Index.index) (steps.Index c.in-Some.next) (search rules) (search rules)
    (ap (λ n. Index n ∷ path_of front) (sym next))
