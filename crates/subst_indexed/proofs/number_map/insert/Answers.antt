-- The names are compared by their bytes.
use Rattle.std.proofs.lemmas.Map.Text.{btree_map_updates_str}
use Rattle.subst_indexed.proofs.number_map.insert.Goals as goal

pub returns : goal.returns
returns c =
    btree_map_updates_str c.args.name.now c.args.map.now c.insert.new.self _ c.in_ok-insert.ensures.updates
