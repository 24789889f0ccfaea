-- The cells of the names before the index are appended.
use Rattle.std.proofs.Common.{◌≡◌, ◌++◌, map, take}
use Rattle.subst_indexed.specs.Names.{uses_of}
use Rattle.subst_indexed.specs.Template.{use_cell}
use Rattle.subst_indexed.proofs.names.Names.append_to.Given as goal

abbrev pub invariant-loop-name : goal.invariant-loop-name
invariant-loop-name l =
    l.cells.items ≡ l.initial.cells.items ++ map use_cell (uses_of (take l.name-index l.self.list.items))
