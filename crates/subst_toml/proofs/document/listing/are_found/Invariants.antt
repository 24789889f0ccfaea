use Rattle.std.proofs.Common.{drop}
use Rattle.std.specs.List.{AllByRecursion}
use Rattle.toml.specs.View.{view}
use Rattle.subst_toml.specs.Filled.{IsFound}
use Rattle.subst_toml.proofs.document.listing.are_found.Given as goal

-- if the remaining strings are found, all are
abbrev pub invariant-loop-it : goal.invariant-loop-it
invariant-loop-it l = AllByRecursion (IsFound l.source (view l.tree)) (drop l.it-index l.it-items)
    → AllByRecursion (IsFound l.source (view l.tree)) l.it-items
