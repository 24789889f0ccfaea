-- The text that was read, without its backslashes, leaves the open braces open.
use Rattle.std.proofs.Common.{◌≤◌, take}
use Rattle.subst_document.specs.Splice.{bare}
use Rattle.subst_document.proofs.PlaceholderLemmas.{LeavesOpen}
use Rattle.subst_document.proofs.placeholder.bare_closing_brace.Given as goal

abbrev pub invariant-loop-at : goal.invariant-loop-at
invariant-loop-at l = (l.depth ≤ l.at) × LeavesOpen (bare (take l.at l.text)) l.depth
