-- The next pair sets its name, unless an earlier one has.
use Rattle.std.proofs.Common.{sym, ◌∙◌}
use Rattle.subst_filter_lib.proofs.ArgumentLemmas.{first_value-take}
use Rattle.subst_filter_lib.proofs.values.values_of_pairs.Goals as goal

pub loop-name-preserved : goal.loop-name-preserved
loop-name-preserved c = λ name.
    let pair = c.loop-name-item in
    let key = c.as_str.ensures.value in
    let value = c.as_str-in-loop-name.ensures.value in
    let step = c.in_ok-insert_if_new.ensures name in
    let added = rw (key, value, c.loop-name.invariant name) at step in
    added ∙ sym (first_value-take c.args.pairs.now c.loop-name.name-index pair.result name
    c.loop-name-test.true pair.is)
