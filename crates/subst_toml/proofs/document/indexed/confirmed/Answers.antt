-- After the last string, all paths are found.
use Rattle.std.proofs.Common.{ℕ, [], sym, subst, append-nil}
use Rattle.std.proofs.lemmas.List.{drop_all}
use Rattle.std.specs.Fmt.{decimal}
use Rattle.toml.specs.View.{view}
use Rattle.subst_document.specs.Refused.{ArePathsTo}
use Rattle.subst_toml.specs.Paths.{steps_of, Leads}
use Rattle.subst_toml.specs.declared.path.Path.{Path}
use Rattle.subst_toml.proofs.document.indexed.confirmed.Goals as goal

pub returns : goal.returns
returns c =
    let l = c.loop-it in
    let refused = c.args.refused.now in
    let LeadsTo = λ (index : ℕ) (path : Path). Leads (steps_of path) (view c.args.tree.now) (decimal index) in
    subst (ArePathsTo LeadsTo refused) (append-nil l.paths.items)
    (l.invariant [] (subst (λ xs. ArePathsTo LeadsTo xs []) (sym (drop_all l.it-index refused c.loop-it-test.false))
    tt))
