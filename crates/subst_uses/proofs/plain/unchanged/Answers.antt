-- A plain source is its own output, and has no other answer.
use Rattle.std.proofs.lemmas.Option.{IfSome_then}
use Rattle.subst.specs.Language.Answer.{Gives}
use Rattle.subst.specs.Calls.VariableMap.{look_up_of}
use Rattle.subst.specs.Calls.Outcome.{answer_of}
use Rattle.subst.proofs.Calling.{answer_unique}
use Rattle.subst_uses.proofs.plain.unchanged.Goals as goal

pub returns : goal.returns
returns g c = λ bytes reads.
    let s = c.args.source.now in
    let look = look_up_of bytes (g.M.VariableMap.look_up c.args.variables.now) in
    let result = c.substitute_bytes.result in
    IfSome_then (answer_of (λ output. output.items) result) (c.substitute_bytes.ensures.answer bytes reads)
    (λ answer h. answer_unique s look answer (Gives s) h (c.law_8.ensures.itself s look c.requires))
