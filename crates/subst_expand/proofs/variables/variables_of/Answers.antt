-- Each part is read at its index, and its variable is listed.
use Rattle.subst_expand.proofs.ExpandLemmas.{fits_there}
use Rattle.subst_expand.proofs.PackedLemmas.{unpacked_at}
use Rattle.subst_expand.proofs.VariablesLemmas.{tells_on, tells_more}
use Rattle.subst_expand.proofs.variables.variables_of.Goals.{in-Some+in_ok-push, in_default}
use Rattle.subst_expand.proofs.variables.variables_of.Goals as goal

pub variable_at-requires : goal.variable_at-requires
variable_at-requires g c =
    let here = unpacked_at g.O.Offset.value c.args.packed.now c.part-item.result c.loop-part-test.true
    c.part-item.is c.unpack.ensures in
    (fits_there _ _ c.requires here).0

pub loop-part-preserved : goal.loop-part-preserved
loop-part-preserved g c =
    let here = unpacked_at g.O.Offset.value c.args.packed.now c.part-item.result c.loop-part-test.true
    c.part-item.is c.unpack.ensures in
    elim c.match-variable_at.branch [
      | in-Some+in_ok-push w ↦
          tells_more w.in-Some.variable c.loop-part.invariant here w.in-Some.ensures
          (rw w.list-is w.in_ok-push.ensures.items)
      | in_default w ↦ rw w.list-is (tells_on c.loop-part.invariant here w.in_default.ensures)
    ]
