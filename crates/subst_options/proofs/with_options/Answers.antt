-- Each option adds its rule, and the names that it excludes.
use Rattle.subst_options.proofs.CommandLemmas.{more_exclusions, more_rules, no_more_exclusions, no_more_rules, exclusion_is}
use Rattle.subst_options.proofs.with_options.Goals as goal

pub loop-row-init : goal.loop-row-init
loop-row-init c = (no_more_rules _, no_more_exclusions _)

pub loop-row-preserved : goal.loop-row-preserved
loop-row-preserved c =
    let made = c.in_ok-to_arg.ensures in
    let adds = c.in_ok-command.ensures in (
      more_rules _ c.args.rows.now c.loop-row.row-index _ _ _ _ c.loop-row-test.true c.loop-row.invariant.0
          (adds.shape made.local) made.rule,
      more_exclusions _ c.args.rows.now c.loop-row.row-index _ _ _ _ c.loop-row-test.true
          c.loop-row.invariant.1 adds (exclusion_is c.in_ok-to_arg.field-0 _ made.rule made.excludes),
    )
