-- The output is appended to the items, and cut off again if there is an error.
use Rattle.std.proofs.Common.{refl, ◌∙◌}
use Rattle.std.proofs.Math.Seq.{take-append_seam}
use Rattle.subst_expand.proofs.ExpansionLemmas.{expanded, expanded_until, named_stop}
use Rattle.subst_expand.proofs.expand.expand_into.Goals as goal

pub returns-in-Ok-clause-expands : goal.returns-in-Ok-clause-expands
returns-in-Ok-clause-expands g c =
    expanded g.R.ReadValue.read _ g.M.VariableMap.see _ _ c.args.parts.now _ _ c.in-Ok.ensures.written

pub error_of-requires : goal.error_of-requires
error_of-requires g c = named_stop _ _ c.args.parts.now _ _ _ c.in-Err.ensures.stopped

pub returns-in-Err-clause-expands : goal.returns-in-Err-clause-expands
returns-in-Err-clause-expands g c =
    let stops = c.in-Err.ensures.stopped in
    let begins = stops.begins in
    expanded_until g.R.ReadValue.read _ g.M.VariableMap.see _ _ c.args.parts.now _ _ _ c.error_of.result _
    stops c.error_of.ensures
    (c.truncate.ensures.items
    ∙ rw (begins.puts tt c.args.output.now.items refl, c.len-len.ensures, c.args.output.now.ok.0)
    (take-append_seam c.args.output.now.items begins.appended))
