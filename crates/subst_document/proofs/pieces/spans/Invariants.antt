use Rattle.std.proofs.Common.{List, ◌++◌, drop, ℕ}
use Rattle.std.specs.declared.ops.Range.{Range}
use Rattle.subst_document.specs.Pieces.{ArePiecesFrom}
use Rattle.subst_document.proofs.pieces.spans.Given as goal

-- the spans so far, with those of the ranges left, are spans of all ranges
abbrev pub invariant-loop-range : goal.invariant-loop-range
invariant-loop-range g l = (rest : List (Range ℕ))
    → ArePiecesFrom (g.P.Pieces.is_piece l.token) l.passed (drop l.range-index l.ranges) rest
    → ArePiecesFrom (g.P.Pieces.is_piece l.token) l.fn.first l.ranges (l.places.items ++ rest)
