-- The values of the names so far.
use Rattle.std.proofs.Common.{◌≡◌, map, take}
use Rattle.std.specs.Option.{option_map}
use Rattle.subst_expander.specs.Layers.{entries_of, look_up_in}
use Rattle.subst_rows.specs.Columns.{bytes_of}
use Rattle.subst_cli.proofs.letters.values_of.Given as goal

abbrev pub invariant-loop-name : goal.invariant-loop-name
invariant-loop-name l = map (option_map (λ bytes. bytes.now)) l.values.items
    ≡ map (look_up_in (entries_of l.entries)) (bytes_of (take l.name-index l.names))
