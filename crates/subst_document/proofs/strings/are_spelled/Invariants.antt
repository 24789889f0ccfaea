use Rattle.std.proofs.Common.{drop}
use Rattle.subst_document.specs.Edits.{AreSpelled}
use Rattle.subst_document.proofs.strings.are_spelled.Given as goal

-- if the rest is spelled after those so far, all are
abbrev pub invariant-loop-it : goal.invariant-loop-it
invariant-loop-it g l = AreSpelled g.T.StringFormat.is_token l.source l.done (drop l.it-index l.list)
    → AreSpelled g.T.StringFormat.is_token l.source 0 l.list
