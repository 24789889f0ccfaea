use Rattle.std.proofs.Common.{◌≡◌, List, [], ◌++◌, length}
use Rattle.json.specs.Lex.{tokens}
use Rattle.subst_document.specs.Paths.{Located}
use Rattle.subst_document.specs.Refused.{ArePathsTo}
use Rattle.subst_json.specs.Listed.{located_in, IsPathTo}
use Rattle.subst_json.specs.declared.path.Path.{Path}
use Rattle.subst_json.proofs.ListedLemmas.{path_of}
use Rattle.subst_json.proofs.paths.JsonPathsPaths.paths_to.Given as goal

-- the paths so far are those to the refused strings before the remaining ones
abbrev pub invariant-loop-token : goal.invariant-loop-token
invariant-loop-token l = (done : List Located)
    × (located_in [] (tokens l.self.source.now) ≡ done ++ located_in (path_of l.steps.items) l.reader)
    × (l.collector.index ≡ length done)
    × ((more : List Path) → ArePathsTo (IsPathTo l.self.source.now) l.collector.rest.now more
    → ArePathsTo (IsPathTo l.self.source.now) l.refused (l.collector.paths.items ++ more))

abbrev pub decreases-loop-token : goal.decreases-loop-token
decreases-loop-token l = length l.reader
