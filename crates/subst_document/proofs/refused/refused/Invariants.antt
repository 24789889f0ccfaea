use Rattle.std.proofs.Common.{◌≡◌, ℕ, List, ◌++◌, drop}
use Rattle.subst_document.specs.Refused.{AreRefusedOf}
use Rattle.subst_document.specs.declared.edits.RefusalAt.{RefusalAt}
use Rattle.subst_document.proofs.refused.refused.Given as goal

-- the refusals so far, with those of the rest, are those of all strings
abbrev pub invariant-loop-index : goal.invariant-loop-index
invariant-loop-index g l = (more : List (RefusalAt ℕ))
    → AreRefusedOf (g.F.Fill.answers l.filler) (λ index path. path ≡ index) l.index (drop l.index l.list) more
    → AreRefusedOf (g.F.Fill.answers l.filler) (λ index path. path ≡ index) 0 l.list (l.all.items ++ more)
