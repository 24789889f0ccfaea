-- The names so far are those of the strings so far, and the map has them.
use Rattle.std.proofs.Common.{◌≡◌, ℕ, List, map, string_bytes, take}
use Rattle.subst_document.specs.Edits.{text_at}
use Rattle.subst_c.specs.DocumentNames.{KnowsNames, UseNames, distinct}
use Rattle.subst_c.proofs.document.by_names.names_of.Given as goal

abbrev pub invariant-loop-it : goal.invariant-loop-it
invariant-loop-it l = KnowsNames l.known (map string_bytes l.names.items)
    × ((used : List (List ℕ)) × UseNames (map text_at (take l.it-index l.strings)) used
    × (map string_bytes l.names.items ≡ distinct used))
