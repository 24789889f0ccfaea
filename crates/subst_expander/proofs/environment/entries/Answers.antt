-- The next entry adds its variable.
use Rattle.std.proofs.Common.{sym, ◌∙◌}
use Rattle.std.specs.Prelude.{vec_items}
use Rattle.subst_expander.proofs.LayerLemmas.{environment_take}
use Rattle.subst_expander.proofs.environment.entries.Goals as goal

pub loop-bytes-preserved : goal.loop-bytes-preserved
loop-bytes-preserved c =
    let added = rw (c.deref.ensures.value, c.loop-bytes.invariant) at c.in_ok-add.ensures in
    added ∙ sym (environment_take vec_items c.args.raw.now c.loop-bytes.bytes-index c.bytes-item.result
    c.loop-bytes-test.true c.bytes-item.is)
