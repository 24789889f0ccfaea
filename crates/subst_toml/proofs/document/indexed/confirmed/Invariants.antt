use Rattle.std.proofs.Common.{List, ◌++◌, drop}
use Rattle.std.specs.Fmt.{decimal}
use Rattle.toml.specs.View.{view}
use Rattle.subst_document.specs.Refused.{ArePathsTo}
use Rattle.subst_toml.specs.Paths.{steps_of, Leads}
use Rattle.subst_toml.specs.declared.path.Path.{Path}
use Rattle.subst_toml.proofs.document.indexed.confirmed.Given as goal

-- the paths so far, followed by those to the remaining strings, are all paths
abbrev pub invariant-loop-it : goal.invariant-loop-it
invariant-loop-it l = (more : List Path)
    → ArePathsTo (λ index path. Leads (steps_of path) (view l.tree) (decimal index)) (drop l.it-index l.refused)
    more → ArePathsTo (λ index path. Leads (steps_of path) (view l.tree) (decimal index)) l.refused
    (l.paths.items ++ more)
