-- The map has the numbers of the names before the index.
use Rattle.std.proofs.Common.{take}
use Rattle.subst_indexed.specs.Names.{HasNumbers, name_bytes}
use Rattle.subst_indexed.proofs.number_map.map_of.Given as goal

abbrev pub invariant-loop-index : goal.invariant-loop-index
invariant-loop-index l = HasNumbers l.map (name_bytes (take l.index l.names))
