-- The name at the index has a pair exactly if its value is set.
use Rattle.std.proofs.Common.{string_bytes}
use Rattle.subst_c.specs.Values.{given_values}
use Rattle.subst_c.proofs.DocumentNamesLemmas.{no_pair_more, pair_more, texts_more}
use Rattle.subst_c.proofs.document.by_names.pairs_by_number.Goals as goal
use Rattle.subst_c.proofs.document.by_names.pairs_by_number.Goals.{in-Some+in_ok-push, in_default}

pub loop-number-preserved : goal.loop-number-preserved
loop-number-preserved c =
    let names = c.args.names.now in
    let item = c.index-names-number.result in
    let here = c.index-names-number.is in
    let values = given_values c.args.values.now in
    let number = c.loop-number.number in
    let below = c.loop-number-test.true in
    elim c.match-value_at.branch [
      | in-Some+in_ok-push w ↦
          rw w.pairs-is (
            pair_more string_bytes names number item values c.loop-number.pairs.items _ _ c.requires below here
                w.in_ok-push.ensures.items w.as_bytes.ensures.value w.in-Some.ensures.value
                c.loop-number.invariant.0,
            λ are.
                texts_more c.loop-number.pairs.items _ _ w.in_ok-push.ensures.items (w.in-Some.ensures.text are)
                (c.loop-number.invariant.1 are),
          )
      | in_default w ↦
          rw w.pairs-is (
            no_pair_more string_bytes names number item values c.loop-number.pairs.items c.requires below here
                w.in_default.ensures.value c.loop-number.invariant.0,
            c.loop-number.invariant.1,
          )
    ]
