use Rattle.std.proofs.Common.{◌≡◌, ◌++◌, length, map}
use Rattle.std.specs.List.{zip}
use Rattle.std.specs.Vec.Iter.{into_iter_items, into_iter_len}
use Rattle.subst_document.specs.Refused.{with_path}
use Rattle.subst_document.proofs.refused.with_paths.Given as goal

-- each refusal so far has its path
abbrev pub invariant-loop-it : goal.invariant-loop-it
invariant-loop-it g l = (map (λ it. with_path it.0 it.1) (zip l.fn.refused.items l.fn.paths.items)
    ≡ l.all.items
    ++ map (λ it. with_path it.0 it.1) (zip (into_iter_items l.it-iterator) (into_iter_items l.rest)))
    × (into_iter_len l.it-iterator ≡ length (into_iter_items l.it-iterator))
    × (into_iter_len l.rest ≡ length (into_iter_items l.rest))
