-- The first remaining refused string is this one, or a later one.
use Rattle.std.proofs.Common.{◌≡◌, ◌∷◌, inl, inr, refl, rules}
use Rattle.subst_json.proofs.paths.PathCollector.collect.Goals.{in-Some+then-first-self+in_ok-steps+in_ok-push, in_default}
use Rattle.subst_json.proofs.paths.PathCollector.collect.Goals as goal

pub returns-in-Some-checked_add-clause-found : goal.returns-in-Some-checked_add-clause-found
returns-in-Some-checked_add-clause-found c = λ _. elim c.match-split_first.branch [
  | in-Some+then-first-self+in_ok-steps+in_ok-push w ↦
      let rest : c.args.self.now.rest.now ≡ w.in-Some.first.now ∷ w.in-Some.rest.now = search rules in
      inr (
        c.in-String.field-0.now,
        w.in-Some.first.now,
        record { steps = w.in_ok-steps.steps },
        rw c.in-String.is refl,
        search rules,
        rw w.self-is rest,
        rw w.self-is w.in_ok-push.ensures.items,
        w.in_ok-steps.ensures,
      )
  | in_default w ↦ inl (rw w.self-is refl, rw w.self-is refl)
]
