-- One more step is written after those before it.
use Rattle.std.proofs.Common.{◌≡◌, ◌<◌, ℕ, ◌+◌, List, [], ◌∷◌, ◌++◌, add-one, append_assoc, append-nil, ap, arith, codes, get_or, length, map, refl, rules, sym, take, ◌∙◌}
use Rattle.std.proofs.lemmas.Grind.{flat_map-append, put_two}
use Rattle.std.proofs.lemmas.List.{map-append, take_more}
use Rattle.std.specs.Fmt.{HasWritten}
use Rattle.std.specs.List.{flat_map}
use Rattle.subst_document.specs.Paths.{PathStep, step_of}
use Rattle.subst_yaml.specs.Paths.{step_text, steps_text}
use Rattle.subst_yaml.proofs.path.Path.write_steps.Invariants.{dot_after}
use Rattle.subst_yaml.proofs.path.Path.write_steps.Goals as goal

-- a dot precedes each key but the first
dot_next : {X : Type 0} (f : X → PathStep) (xs : List X) (i : ℕ) → i < length xs
    → codes "." ≡ dot_after (map f (take (i + 1) xs))
dot_next f [] i within = absurd (omega arith)
dot_next f (x ∷ xs) i within = rw add-one refl

text_then : (steps : List PathStep) (step : PathStep)
    → steps_text (steps ++ step ∷ []) ≡ steps_text steps ++ step_text (dot_after steps) step
text_then [] step = append-nil (step_text [] step)
text_then (first ∷ steps) step =
    let dotted = step_text (codes ".") in
    ap (λ (rest : List ℕ). step_text [] first ++ rest) (flat_map-append dotted steps (step ∷ [])
    ∙ ap (λ (last : List ℕ). flat_map dotted steps ++ last) (append-nil (dotted step)))
    ∙ sym (append_assoc (step_text [] first) (flat_map dotted steps) (dotted step))

text_next : {X : Type 0} (f : X → PathStep) (xs : List X) (i : ℕ) (dot : List ℕ) (item : X) → i < length xs
    → dot ≡ dot_after (map f (take i xs)) → item ≡ get_or xs i item
    → steps_text (map f (take i xs)) ++ step_text dot (f item) ≡ steps_text (map f (take (i + 1) xs))
text_next {X} f xs i dot item within dot_is is =
    let more : take (i + 1) xs ≡ take i xs ++ item ∷ [] =
    take_more xs i item within ∙ ap (λ (x : X). take i xs ++ x ∷ []) (sym is) in
    ap (λ (d : List ℕ). steps_text (map f (take i xs)) ++ step_text d (f item)) dot_is
    ∙ sym (text_then (map f (take i xs)) (f item))
    ∙ sym (ap (λ (list : List X). steps_text (map f list)) more
    ∙ ap steps_text (map-append f (take i xs) (item ∷ [])))

pub loop-step-preserved : goal.loop-step-preserved
loop-step-preserved g c =
    let l = c.loop-step in
    let steps = c.args.self.now.steps.items in
    let item = c.step-item.result in
    let within : l.step-index < length steps = rw c.deref-step-items.ensures.value at c.loop-step-test.true in
    let is : item ≡ get_or steps l.step-index item = rw c.deref-step-items.ensures.value at c.step-item.is in (
      dot_next step_of steps l.step-index within,
      λ plain.
          let before = l.invariant.1 plain in
          let written : HasWritten g.W.Write.write_str_gives l.f (step_text l.dot.now (step_of item))
          c.write_step.new.f = c.write_step.ensures before.plain (search rules) in
          put_two g.W.Write.write_str_gives c.args.f.now l.f c.write_step.new.f
          (steps_text (map step_of (take l.step-index steps))) (step_text l.dot.now (step_of item))
          (steps_text (map step_of (take (l.step-index + 1) steps))) before written
          (text_next step_of steps l.step-index l.dot.now item within l.invariant.0 is),
    )
