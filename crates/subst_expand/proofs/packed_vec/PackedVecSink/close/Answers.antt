-- The jump of the part at the index is set, and the other parts are unchanged.
use Rattle.std.proofs.Common.{◌∷◌, ◌++◌, length, ◌∙◌}
use Rattle.std.proofs.Math.Seq.{set-append_seam}
use Rattle.subst_language.specs.declared.part.Part.TheVariants.{Default}
use Rattle.subst_expand.proofs.packed_vec.PackedVecSink.close.Goals as goal

pub returns : goal.returns
returns g c first before own is closed held =
    let name = c.args.name in
    let next = length (before ++ Default name 0 ∷ own) in
    c.set.ensures
    ∙ rw (held, is, c.len-next.ensures.len, held) (set-append_seam before (Default name 0) own
    (Default name next))
