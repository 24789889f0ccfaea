use Rattle.std.proofs.Common.{◌≡◌, ℕ, List, [], ◌++◌, length}
use Rattle.subst_document.specs.Edits.{AreListed}
use Rattle.subst_document.proofs.strings.listed.Given as goal

-- the strings so far are listed
abbrev pub invariant-loop-it : goal.invariant-loop-it
invariant-loop-it g l = (done : List (List ℕ))
    × (g.S.Strings.left l.initial.strings ≡ done ++ g.S.Strings.left l.strings)
    × AreListed g.T.StringFormat.is_token l.source 0 l.from done [] l.list.items

abbrev pub decreases-loop-it : goal.decreases-loop-it
decreases-loop-it g l = length (g.S.Strings.left l.strings)
