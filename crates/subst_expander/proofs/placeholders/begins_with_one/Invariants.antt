-- The name begins with none of the starts so far.
use Rattle.std.proofs.Common.{◌≡◌, ◌++◌, ℕ, List, take}
use Rattle.std.specs.List.{All}
use Rattle.subst_expander.proofs.placeholders.begins_with_one.Given as goal

abbrev pub invariant-loop-start : goal.invariant-loop-start
invariant-loop-start l =
    All (λ start. ¬ ((rest : List ℕ) × (l.fn.name ≡ start.now ++ rest))) (take l.start-index l.starts)
