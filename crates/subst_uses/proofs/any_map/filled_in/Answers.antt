-- The map's values are read as in its look-up of bytes.
use Rattle.std.proofs.Common.{rules, IfSome}
use Rattle.subst.specs.Language.Answer.{Answers}
use Rattle.subst.specs.Calls.Outcome.{answer_of}
use Rattle.subst.proofs.Calling.{by_look_up_bytes}
use Rattle.subst_uses.proofs.any_map.filled_in.Goals as goal

pub returns : goal.returns
returns g c =
    let map = g.M.VariableMap in
    let stated = answer_of (λ output. output.items) c.substitute_bytes.result in
    by_look_up_bytes g.M.Value.AsSlice.items map.see map.look_up g.M.BytesMap.look_up_bytes c.args.variables.now
    (λ look. IfSome stated (Answers c.args.source.now look))
    (g.met.M.BytesMap c.lifetimes (search rules)).reads c.substitute_bytes.ensures.answer
