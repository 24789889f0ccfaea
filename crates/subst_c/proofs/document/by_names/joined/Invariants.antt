-- The bytes and ends so far are those of the names so far.
use Rattle.std.proofs.Common.{◌≡◌, map, string_bytes, take}
use Rattle.std.specs.List.{concat}
use Rattle.subst_c.specs.Each.{ends_from}
use Rattle.subst_c.proofs.document.by_names.joined.Given as goal

abbrev pub invariant-loop-name : goal.invariant-loop-name
invariant-loop-name l = (l.bytes.items ≡ concat (map string_bytes (take l.name-index l.names)))
    × (l.ends.items ≡ ends_from 0 (map string_bytes (take l.name-index l.names)))
