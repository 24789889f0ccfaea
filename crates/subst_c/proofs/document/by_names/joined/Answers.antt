-- The next name is appended, and its end.
use Rattle.std.proofs.Common.{rules, string_bytes}
use Rattle.subst_c.proofs.DocumentNamesLemmas.{joined_more}
use Rattle.subst_c.proofs.document.by_names.joined.Goals as goal

pub loop-name-preserved : goal.loop-name-preserved
loop-name-preserved c =
    joined_more string_bytes c.args.names.now c.loop-name.name-index c.name-item.result _ _ _ _
    c.loop-name-test.true c.name-item.is c.loop-name.invariant (search rules) (search rules)
