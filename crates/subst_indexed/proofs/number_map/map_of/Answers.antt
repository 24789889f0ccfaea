-- The next name is inserted.
use Rattle.subst_indexed.proofs.NumberMapLemmas.{has_numbers-take}
use Rattle.subst_indexed.proofs.number_map.map_of.Goals as goal

pub loop-index-preserved : goal.loop-index-preserved
loop-index-preserved c =
    has_numbers-take c.args.names.now c.loop-index.index _ c.loop-index-test.true c.loop-index.map c.insert.new.map
    c.in_ok-index_as_u32.field-0 c.requires c.loop-index.invariant c.in_ok-index_as_u32.ensures
    c.in_ok-insert.ensures
