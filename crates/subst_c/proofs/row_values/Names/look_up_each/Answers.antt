-- A pair with a name of the template sets its value, unless an earlier pair has.
use Rattle.std.proofs.Common.{◌∙◌, arith}
use Rattle.std.proofs.lemmas.List.{length-map}
use Rattle.subst_c.proofs.RowValuesLemmas.{all_taken, number_within, pair_found, pair_passed}
use Rattle.subst_c.specs.RowValues.{bytes_of}
use Rattle.subst_c.proofs.row_values.Names.look_up_each.Goals as goal
use Rattle.subst_c.proofs.row_values.Names.look_up_each.Goals.{in-Some, in_default}

pub set_if_unset-requires : goal.set_if_unset-requires
set_if_unset-requires c =
    let names = c.args.self.now.list.items in
    omega (
      arith,
      number_within (bytes_of names) _ c.in-Some.number c.in-Some.ensures,
      length-map names (λ name. name.now),
      c.loop-index.invariant.counted,
    )

pub loop-index-preserved : goal.loop-index-preserved
loop-index-preserved c =
    let names = bytes_of c.args.self.now.list.items in
    let pairs = c.args.pairs.now in
    let before = c.loop-index.invariant in
    elim c.match-number.branch [
      | in-Some w ↦
          rw w.row-is (record {
            counted = w.set_if_unset.ensures.length ∙ before.counted;
            found = pair_found names pairs c.loop-index.index _ c.loop-index-test.true _ before.found _
                w.in-Some.number w.in-Some.ensures w.set_if_unset.ensures.set w.set_if_unset.ensures.kept;
          })
      | in_default w ↦
          rw w.row-is (record {
            counted = before.counted;
            found = pair_passed names pairs c.loop-index.index _ c.loop-index-test.true _ before.found
                w.in_default.ensures;
          })
    ]

pub returns : goal.returns
returns c =
    all_taken (bytes_of c.args.self.now.list.items) c.args.pairs.now c.loop-index.index _ c.loop-index-test.false
    c.loop-index.invariant.found
