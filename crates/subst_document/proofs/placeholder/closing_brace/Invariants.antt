-- The text that was read leaves the open braces open.
use Rattle.std.proofs.Common.{◌≤◌, take}
use Rattle.subst_document.proofs.PlaceholderLemmas.{Reaches}
use Rattle.subst_document.proofs.placeholder.closing_brace.Given as goal

abbrev pub invariant-loop-at : goal.invariant-loop-at
invariant-loop-at l = (l.depth ≤ l.at) × Reaches (take l.at l.text) l.depth l.is_escaped
